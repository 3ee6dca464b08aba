-- Of `Machine::short` in src/short_plans.rt.
use Rattle.std.proofs.Common.{◌≡◌, Ok, subst, sym}
use Rattle.std.specs.Prelude.{IfOk, IfSome, IsOk, OnErr}
use Rattle.kt_node.specs.ShortPlan.{plan_of}
use Rattle.kt_store.specs.Content.{Content}
use Rattle.kt_scenario.specs.declared.step.Step.{Step}
use Rattle.kt_model.specs.StepPlan.{step_plan}
use Rattle.kt_core.specs.auxiliary.Machine.{state_of}
use Rattle.kt_core.proofs.machine.Machine.short.Goals as goal

pub returns-in-Issue-clause-enabled : goal.returns-in-Issue-clause-enabled
returns-in-Issue-clause-enabled c =
    let P : Step → Type 0 = λ step. OnErr c.short_issue.result ((held : Content) → IsOk (step_plan (state_of c.args.self.now held) step)) in
    subst P (sym c.in-Issue.is) c.short_issue.ensures.enabled

pub returns-in-Deliver-clause-enabled : goal.returns-in-Deliver-clause-enabled
returns-in-Deliver-clause-enabled c =
    let P : Step → Type 0 = λ step. OnErr c.short_deliver.result ((held : Content) → IsOk (step_plan (state_of c.args.self.now held) step)) in
    subst P (sym c.in-Deliver.is) c.short_deliver.ensures.enabled

pub returns-in-Serve-clause-enabled : goal.returns-in-Serve-clause-enabled
returns-in-Serve-clause-enabled c =
    let P : Step → Type 0 = λ step. OnErr c.short_serve.result ((held : Content) → IsOk (step_plan (state_of c.args.self.now held) step)) in
    subst P (sym c.in-Serve.is) c.short_serve.ensures.enabled

pub returns-in-Issue-clause-plan : goal.returns-in-Issue-clause-plan
returns-in-Issue-clause-plan c =
    let P : Step → Type 0 = λ step.
    IfOk c.short_issue.result (λ o. IfSome o (λ e. (held : Content) → step_plan (state_of c.args.self.now held) step ≡ Ok (plan_of e))) in
    subst P (sym c.in-Issue.is) c.short_issue.ensures.plan

pub returns-in-Serve-clause-plan : goal.returns-in-Serve-clause-plan
returns-in-Serve-clause-plan c =
    let P : Step → Type 0 = λ step.
    IfOk c.short_serve.result (λ o. IfSome o (λ e. (held : Content) → step_plan (state_of c.args.self.now held) step ≡ Ok (plan_of e))) in
    subst P (sym c.in-Serve.is) c.short_serve.ensures.plan
