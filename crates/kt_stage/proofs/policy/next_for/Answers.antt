use Rattle.kt_stage.proofs.Allowed.{asked-nobody, found-by-mode, given-allowed, given-own}
use Rattle.kt_stage.proofs.policy.next_for.Goals as goal

pub returns-in-None-clause-next : goal.returns-in-None-clause-next
returns-in-None-clause-next g c =
    asked-nobody c.args.world.now c.args.faults.now c.args.node c.mode.result c.mode.ensures.value c.mode.ensures.there c.in-None.is

pub returns-in-Some-clause-own : goal.returns-in-Some-clause-own
returns-in-Some-clause-own g c = λ h. given-own c.args.world.now.state c.args.faults.now c.args.node c.first_by.result (c.first_by.ensures.value h)

pub returns-in-Some-clause-allowed : goal.returns-in-Some-clause-allowed
returns-in-Some-clause-allowed g c = λ h.
    given-allowed c.args.world.now.state c.args.faults.now c.args.node c.first_by.result
    (found-by-mode c.args.world.now.state c.args.node c.mode.result c.mode.ensures.value c.mode.ensures.there) (c.first_by.ensures.value h)
