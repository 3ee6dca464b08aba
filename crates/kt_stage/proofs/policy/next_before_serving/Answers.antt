use Rattle.std.proofs.Common.{sym, ap, ◌∙◌, refl}
use Rattle.std.specs.Prelude.{is_some}
use Rattle.kt_stage.specs.Policy.{before_serving}
use Rattle.kt_stage.proofs.Allowed.{before-allowed, before-asked, before-nobody, before-own, found-by-mode}
use Rattle.kt_stage.proofs.policy.next_before_serving.Goals as goal

pub returns-in-None-clause-next : goal.returns-in-None-clause-next
returns-in-None-clause-next g c = before-nobody c.args.world.now c.args.faults.now c.args.node c.mode.result c.mode.ensures.there c.in-None.is

pub returns-in-Some-clause-next : goal.returns-in-Some-clause-next
returns-in-Some-clause-next g c =
    before-asked c.args.world.now c.first_by.new.world c.args.faults.now c.args.node before_serving c.first_by.result refl
    (sym c.mode.ensures.there ∙ ap is_some c.in-Some.is) c.first_by.ensures

pub returns-in-Some-clause-own : goal.returns-in-Some-clause-own
returns-in-Some-clause-own g c = λ h.
    let asked = before-asked c.args.world.now c.first_by.new.world c.args.faults.now c.args.node before_serving c.first_by.result refl
    (sym c.mode.ensures.there ∙ ap is_some c.in-Some.is) c.first_by.ensures in
    before-own c.args.world.now.state c.args.faults.now c.args.node c.first_by.result (asked.value h)

pub returns-in-Some-clause-allowed : goal.returns-in-Some-clause-allowed
returns-in-Some-clause-allowed g c = λ h.
    let asked = before-asked c.args.world.now c.first_by.new.world c.args.faults.now c.args.node before_serving c.first_by.result refl
    (sym c.mode.ensures.there ∙ ap is_some c.in-Some.is) c.first_by.ensures in
    before-allowed c.args.world.now.state c.args.faults.now c.args.node c.first_by.result
    (found-by-mode c.args.world.now.state c.args.node c.mode.result c.mode.ensures.value c.mode.ensures.there) (asked.value h)
