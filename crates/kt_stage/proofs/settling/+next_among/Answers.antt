use Rattle.std.proofs.Common.{◌≡◌, rules, subst, Ok}
use Rattle.std.specs.Prelude.{Option, IfOk, IfSome, IsTrue}
use Rattle.kt_scenario.specs.declared.step.Step.{Step}
use Rattle.kt_model.specs.State.{State}
use Rattle.kt_core.specs.Lent.{is_allowed}
use Rattle.kt_stage.specs.Asking.{IsAsked}
use Rattle.kt_stage.specs.Policy.{next_step}
use Rattle.kt_stage.proofs.Asked.{first_later}
use Rattle.kt_stage.proofs.settling.+next_among.Goals as goal

pub returns-in-None-clause-next : goal.returns-in-None-clause-next
returns-in-None-clause-next g t c =
    let P : Option Step → Type 0 = λ o.
    IsAsked g.S.CkptStore c.args.world.now c.next_for.new.world (λ s y. y ≡ next_step s c.args.faults.now c.in-Some.node.now) (Ok o) in
    first_later (λ s p. next_step s c.args.faults.now p) c.args.nodes.now c.in-Some.later.now c.in-Some.node.now c.args.world.now
    c.next_for.new.world c.next_among.new.world c.next_among.result (search rules) (subst P c.in-None.is c.in_ok-step.ensures.next)
    c.next_among.ensures.next

pub returns-in-None-clause-allowed : goal.returns-in-None-clause-allowed
returns-in-None-clause-allowed g t c = λ h.
    subst (λ (s : State). IfOk c.next_among.result (λ x. IfSome x (λ step. IsTrue (is_allowed s step))))
    (c.next_for.ensures.next.same (c.next_among.ensures.next.honest h)) (c.next_among.ensures.allowed h)
