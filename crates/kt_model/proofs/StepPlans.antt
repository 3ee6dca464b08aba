-- What is planned in a ready state can be carried out and leaves the state ready, whatever the store says; and over a
-- store that tells what it holds its write is allowed, and leaves the state backed.
-- Cited by other crates.
use Rattle.std.proofs.Common.{◌≡◌, Ok}
use Rattle.std.specs.Prelude.{IfSome}
use Rattle.kt_state.specs.declared.plan.Plan.{Plan}
use Rattle.kt_scenario.specs.declared.step.Step.{Step}
use Rattle.kt_model.specs.declared.store_reads.StoreReads.{StoreReads}
use Rattle.kt_scenario.specs.Step.{owner}
use Rattle.kt_model.specs.State.{State}
use Rattle.kt_model.specs.StoreReads.{store_reads}
use Rattle.kt_model.specs.StepPlan.{step_plan_by, step_plan}
use Rattle.kt_model.specs.Effect.{applied}
use Rattle.kt_model.specs.auxiliary.Ready.{IsReady, CanApply}
use Rattle.kt_model.specs.auxiliary.Backed.{IsBacked, IsAllowed}
use Rattle.kt_model.proofs.PlansFound.{plan-found, plan-few, plan-room}
use Rattle.kt_model.proofs.CanApplies.{can_apply, stays_ready}
use Rattle.kt_model.proofs.StaysBacked.{write-allowed, stays_backed}

pub step_plan-can : (s : State) → IsReady s → (t : StoreReads) (step : Step) (plan : Plan) → step_plan_by s t step ≡ Ok plan → CanApply s (owner step) plan
step_plan-can s ready t step plan e = can_apply s ready t step plan (plan-found s t step plan e)

pub step_plan-ready : (s : State) → IsReady s → (t : StoreReads) (step : Step) (plan : Plan) → step_plan_by s t step ≡ Ok plan → IsReady (applied s step plan)
step_plan-ready s ready t step plan e = stays_ready s ready (plan-few s t step plan e) (plan-room s t step plan e) t step plan (plan-found s t step plan e)

pub step_plan-allowed : (s : State) → IsBacked s → (step : Step) (plan : Plan) → step_plan s step ≡ Ok plan
    → IfSome plan.write (IsAllowed s.content (owner step))
step_plan-allowed s is step plan e = write-allowed s is step plan (plan-found s (store_reads s step) step plan e)

pub step_plan-backed : (s : State) → IsBacked s → (step : Step) (plan : Plan) → step_plan s step ≡ Ok plan → IsBacked (applied s step plan)
step_plan-backed s is step plan e = stays_backed s is step plan (plan-found s (store_reads s step) step plan e)
