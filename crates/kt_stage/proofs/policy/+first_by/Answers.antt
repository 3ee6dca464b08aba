use Rattle.std.proofs.Common.{rules, subst, ◌≡◌, Ok}
use Rattle.std.specs.Prelude.{Option}
use Rattle.kt_scenario.specs.declared.step.Step.{Step}
use Rattle.kt_stage.specs.Asking.{IsAsked}
use Rattle.kt_stage.specs.Policy.{by_rule}
use Rattle.kt_stage.proofs.Asked.{first_later}
use Rattle.kt_stage.proofs.policy.+first_by.Goals as goal

pub returns-in-None : goal.returns-in-None
returns-in-None g t c =
    let P : Option Step → Type 0 = λ o.
    IsAsked g.S.CkptStore c.args.world.now c.step.new.world (λ s y. y ≡ by_rule s c.args.faults.now c.args.node c.in-Some.rule.now) (Ok o) in
    first_later (λ s rule. by_rule s c.args.faults.now c.args.node rule) c.args.rules.now c.in-Some.later.now c.in-Some.rule.now c.args.world.now
    c.step.new.world c.first_by.new.world c.first_by.result (search rules) (subst P c.in-None.is c.in_ok-step.ensures) c.first_by.ensures
