use Rattle.std.proofs.Common.{◌≡◌, rules, subst, Ok}
use Rattle.std.specs.Prelude.{Option}
use Rattle.kt_scenario.specs.declared.step.Step.{Step}
use Rattle.kt_stage.specs.Asking.{IsAsked}
use Rattle.kt_stage.specs.Policy.{next_step}
use Rattle.kt_complete.proofs.Onward.{asked_later}
use Rattle.kt_complete.proofs.going.+next_among.Goals as goal

pub returns-in-None : goal.returns-in-None
returns-in-None g t c =
    let P : Option Step → Type 0 = λ o.
    IsAsked g.S.CkptStore c.args.world.now c.next_for.new.world (λ s y. y ≡ next_step s c.args.faults.now c.in-Some.node.now) (Ok o) in
    asked_later (λ s p. next_step s c.args.faults.now p) c.args.nodes.now c.in-Some.later.now c.in-Some.node.now c.args.world.now
    c.next_for.new.world c.next_among.new.world c.next_among.result (search rules) (subst P c.in-None.is c.in_ok-step.ensures.next)
    c.next_among.ensures
