-- Of `Machine::short_deliver` in src/short_plans.rt.
use Rattle.std.proofs.Common.{rules, ◌≡◌, true, Some, Ok, subst}
use Rattle.std.specs.Prelude.{slice_get}
use Rattle.kt_state.specs.declared.message.Message.TheVariants as messages
use Rattle.kt_node.specs.ShortPlan.{plan_of}
use Rattle.kt_node.specs.AppMessages.{hear_app}
use Rattle.kt_node.specs.View.{view_of, View}
use Rattle.kt_store.specs.Content.{Content, empty_content}
use Rattle.kt_scenario.specs.declared.step.Step.TheVariants as steps
use Rattle.kt_scenario.specs.Scene.{are_neighbours}
use Rattle.kt_model.specs.StepPlan.{has_room, step_plan}
use Rattle.kt_model.specs.State.{link}
use Rattle.kt_core.specs.auxiliary.Machine.{state_of}
use Rattle.kt_core.proofs.AtOnce.{of-found}
use Rattle.kt_core.proofs.StepPlans.{heard-step_plan}
use Rattle.kt_core.proofs.machine.Machine.short_deliver.Goals as goal

pub returns-in-Ok-clause-plan : goal.returns-in-Ok-clause-plan
returns-in-Ok-clause-plan c =
    let there : are_neighbours c.args.self.now.scene c.args.from c.args.to ≡ true = search rules in
    let few : has_room (state_of c.args.self.now empty_content) ≡ true = search rules in
    let first : slice_get (link (state_of c.args.self.now empty_content) c.args.from c.args.to) 0 ≡ Some (messages.App c.in-Some-App.app) = search rules in
    of-found c.short_hear.result (λ e. hear_app (view_of c.in-Ok.seen) c.args.from c.in-Some-App.app ≡ Ok (plan_of e))
    (λ e. (held : Content) → step_plan (state_of c.args.self.now held) (steps.Deliver c.args.from c.args.to) ≡ Ok (plan_of e))
    (λ e is held. heard-step_plan (state_of c.args.self.now held) c.args.from c.args.to c.in-Some-App.app (plan_of e) there few first
    (subst (λ (v : View). hear_app v c.args.from c.in-Some-App.app ≡ Ok (plan_of e)) c.in-Ok.ensures.view is)) c.short_hear.ensures
