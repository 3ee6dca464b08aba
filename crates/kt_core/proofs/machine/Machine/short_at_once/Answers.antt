-- Of `Machine::short_at_once` in src/short_plans.rt.
use Rattle.std.proofs.Common.{◌≡◌, Ok, refl, subst, sym}
use Rattle.std.specs.Prelude.{Option, IfSome}
use Rattle.kt_node.specs.declared.short_plan.ShortPlan.{ShortPlan}
use Rattle.kt_node.specs.ShortPlan.{plan_of}
use Rattle.kt_store.specs.Content.{Content, empty_content}
use Rattle.kt_model.specs.StepPlan.{step_plan}
use Rattle.kt_core.specs.auxiliary.Machine.{state_of}
use Rattle.kt_model.specs.auxiliary.Ready.{IsReady}
use Rattle.kt_model.specs.State.{State}
use Rattle.kt_core.proofs.AtOnce.{can-at-once, enabled-at-once, made-at-once, ready-at-once}
use Rattle.kt_core.proofs.machine.Machine.short_at_once.Goals as goal

pub make_short-requires-clause-can : goal.make_short-requires-clause-can
make_short-requires-clause-can c =
    let P : Option ShortPlan → Type 0 = λ o. IfSome o (λ e. (held : Content) → step_plan (state_of c.args.self.now held) c.args.step ≡ Ok (plan_of e)) in
    let is = subst P c.in-Some.is c.in_ok-short.ensures.plan in
    can-at-once c.args.self.now c.args.step (plan_of c.in-Some.short) (plan_of c.in-Some.short) c.requires is refl

pub returns-in_err-make_short-clause-ready : goal.returns-in_err-make_short-clause-ready
returns-in_err-make_short-clause-ready c =
    let P : State → Type 0 = IsReady in subst P (sym (c.in_err-make_short.ensures.same empty_content)) c.requires

pub returns-in_err-make_short-clause-enabled : goal.returns-in_err-make_short-clause-enabled
returns-in_err-make_short-clause-enabled c =
    let P : Option ShortPlan → Type 0 = λ o. IfSome o (λ e. (held : Content) → step_plan (state_of c.args.self.now held) c.args.step ≡ Ok (plan_of e)) in
    let is = subst P c.in-Some.is c.in_ok-short.ensures.plan in
    enabled-at-once _ c.args.self.now c.args.step (plan_of c.in-Some.short) is

pub returns-clause-ready : goal.returns-clause-ready
returns-clause-ready c =
    let P : Option ShortPlan → Type 0 = λ o. IfSome o (λ e. (held : Content) → step_plan (state_of c.args.self.now held) c.args.step ≡ Ok (plan_of e)) in
    let is = subst P c.in-Some.is c.in_ok-short.ensures.plan in
    ready-at-once c.args.self.now c.make_short.new.self c.args.step (plan_of c.in-Some.short) (plan_of c.in-Some.short)
    c.requires is refl c.in_ok-make_short.ensures.made

pub returns-clause-made : goal.returns-clause-made
returns-clause-made c =
    let P : Option ShortPlan → Type 0 = λ o. IfSome o (λ e. (held : Content) → step_plan (state_of c.args.self.now held) c.args.step ≡ Ok (plan_of e)) in
    let is = subst P c.in-Some.is c.in_ok-short.ensures.plan in
    λ yes_made. made-at-once c.args.self.now c.make_short.new.self c.args.step (plan_of c.in-Some.short) (plan_of c.in-Some.short)
    is refl c.in_ok-make_short.ensures.made
