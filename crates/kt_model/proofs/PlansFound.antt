-- Every plan is made in one of the ways that are listed, before the last step.
-- Cited by AllInstanceRows, Holding, Kept, Lasting, OwnRows, Settling, StepPlans; other crates.
use Rattle.std.proofs.Common.{◌≡◌, ◌<◌, Ok, length}
use Rattle.kt_state.specs.declared.plan.Plan.{Plan}
use Rattle.std.specs.Prelude.{IsTrue}
use Rattle.kt_scenario.specs.declared.step.Step.{Step}
use Rattle.kt_scenario.specs.declared.step.Step.TheVariants.{Issue, Repeat, Deliver, Take, Serve, Check, Decide, Abandon, Learn, Fail, Restart}
use Rattle.kt_model.specs.declared.store_reads.StoreReads.{StoreReads}
use Rattle.kt_scenario.specs.declared.step.TheConstants.{MAX_STEPS, MAX_NOTES}
use Rattle.kt_model.specs.State.{State}
use Rattle.kt_scenario.specs.Scene.{is_in_scene}
use Rattle.kt_model.specs.StepPlan.{owner_plan, has_room, unlimited_plan, step_plan_by}
use Rattle.kt_model.proofs.Plans.{PlanOf}
use Rattle.kt_model.proofs.Passed.{limit-passed, room-made, room-noted, scene-passed}
use Rattle.kt_model.proofs.ActsFound.{issue-found, repeat-found, take-found, serve-found}
use Rattle.kt_model.proofs.ArrivalsFound.{delivery-found}
use Rattle.kt_model.proofs.StepsFound.{check-found, decide-found, abandon-found, learn-found, fail-found, restart-found}

owner_plan-found : (s : State) (t : StoreReads) (step : Step) (plan : Plan) → IsTrue (is_in_scene s.scene step) → owner_plan s t step ≡ Ok plan
    → PlanOf s t step plan
owner_plan-found s t (Issue p) plan there e = issue-found s t p plan there e
owner_plan-found s t (Repeat p) plan there e = repeat-found s t p plan there e
owner_plan-found s t (Deliver p q) plan there e = delivery-found s t p q plan there e
owner_plan-found s t (Take p) plan there e = take-found s t p plan there e
owner_plan-found s t (Serve p w place) plan there e = serve-found s t p w place plan there e
owner_plan-found s t (Check p) plan there e = check-found s t p plan there e
owner_plan-found s t (Decide p) plan there e = decide-found s t p plan there e
owner_plan-found s t (Abandon p) plan there e = abandon-found s t p plan there e
owner_plan-found s t (Learn p) plan there e = learn-found s t p plan there e
owner_plan-found s t (Fail p) plan there e = fail-found s t p plan there e
owner_plan-found s t (Restart p) plan there e = restart-found s t p plan there e

pub plan-found : (s : State) (t : StoreReads) (step : Step) (plan : Plan) → step_plan_by s t step ≡ Ok plan → PlanOf s t step plan
plan-found s t step plan e =
    let judge = limit-passed (has_room s) (unlimited_plan s t step) plan e in
    let scene = scene-passed (is_in_scene s.scene step) (owner_plan s t step) plan judge.0 in
    owner_plan-found s t step plan scene.0 scene.1

pub plan-few : (s : State) (t : StoreReads) (step : Step) (plan : Plan) → step_plan_by s t step ≡ Ok plan → s.made < MAX_STEPS
plan-few s t step plan e = room-made s (limit-passed (has_room s) (unlimited_plan s t step) plan e).1

pub plan-room : (s : State) (t : StoreReads) (step : Step) (plan : Plan) → step_plan_by s t step ≡ Ok plan → length s.history < MAX_NOTES
plan-room s t step plan e = room-noted s (limit-passed (has_room s) (unlimited_plan s t step) plan e).1
