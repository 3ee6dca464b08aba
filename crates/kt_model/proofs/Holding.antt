-- What every state keeps that steps lead to from an opening: it is ready, backed by what is stored, and sound, and calm
-- while it has no cut. So the survivors of each are one run, and each step notes one thing at most.
-- Cited by Kept, Lasting; other crates.
use Rattle.std.proofs.Common.{◌≡◌, length, ◌<◌, List, [], ◌∷◌, Result, Ok, Err, refl, subst, None}
use Rattle.kt_tuple.specs.declared.node.NodeId.{NodeId}
use Rattle.kt_history.specs.WellFormed.{HasNoCut}
use Rattle.kt_state.specs.declared.plan.Plan.{Plan}
use Rattle.kt_scenario.specs.declared.step.Step.{Step}
use Rattle.kt_model.specs.declared.error.StepError.{StepError}
use Rattle.kt_scenario.specs.Step.{owner}
use Rattle.kt_scenario.specs.declared.step.TheConstants.{MAX_STEPS, MAX_NOTES}
use Rattle.kt_scenario.specs.Scene.{SceneModel, IsScene}
use Rattle.kt_model.specs.State.{State}
use Rattle.kt_model.specs.StoreReads.{store_reads}
use Rattle.kt_model.specs.StepPlan.{step_plan}
use Rattle.kt_model.specs.Effect.{applied, applied_if, step_result}
use Rattle.kt_model.specs.Reached.{opening, or_as_it_was, next_state, after}
use Rattle.kt_model.specs.Short.{AreShort}
use Rattle.kt_model.specs.auxiliary.Ready.{IsReady}
use Rattle.kt_model.specs.auxiliary.Backed.{IsBacked}
use Rattle.kt_model.proofs.Plans.{PlanOf}
use Rattle.kt_model.proofs.PlansFound.{plan-found, plan-few, plan-room}
use Rattle.kt_model.proofs.CanApplies.{stays_ready}
use Rattle.kt_model.proofs.StaysBacked.{stays_backed, write-allowed}
use Rattle.kt_model.proofs.Shaped.{AreMade, made-none, made-noted as made-stays}
use Rattle.kt_model.proofs.HeldActs.{AreHeld, allowed-promoted, applied-held, opening-held, plan-now, plan-owner}
use Rattle.kt_model.proofs.Opened.{opening-ready, opening-backed}
use Rattle.kt_model.proofs.Sound.{IsSound}
use Rattle.kt_model.proofs.StepSound.{step_keeps, step_sound}
use Rattle.kt_model.proofs.OpenedSound.{opening_sound}
use Rattle.kt_model.proofs.FirstCut.{IsCalm, stays_calm, opening_calm}
use Rattle.kt_model.proofs.Fit.{IsFitting, fits-fitting, plan-fits, opening-fitting}

pub record Holds (s : State) : Type 0 where
  pub ready : IsReady s
  pub backed : IsBacked s
  pub sound : IsSound s
  pub calm : s.found ≡ None → HasNoCut s.history → IsCalm s
  pub fitting : IsFitting s
  pub made : AreMade s.scene s.history
  pub held : (p : NodeId) → AreHeld s p

-- how a step was made
pub record IsMade (s : State) (step : Step) (new : State) : Type 0 where
  pub plan : Plan
  pub is_plan : PlanOf s (store_reads s step) step plan
  pub few : s.made < MAX_STEPS
  pub room : length s.history < MAX_NOTES
  pub leads : applied s step plan ≡ new

pub step-made : (s : State) (step : Step) (new : State) → step_result s step ≡ Ok new → IsMade s step new
step-made s step new e = by (step_plan s step) refl e
  where
    by : (r : Result Plan StepError) → step_plan s step ≡ r → applied_if s step r ≡ Ok new → IsMade s step new
    by (Ok plan) is e = record {
      plan = plan;
      is_plan = plan-found s (store_reads s step) step plan is;
      few = plan-few s (store_reads s step) step plan is;
      room = plan-room s (store_reads s step) step plan is;
      leads = cc (e);
    }
    by (Err refusal) is e = absurd cc

pub made-holds : (s : State) (step : Step) (new : State) → Holds s → IsMade s step new → Holds new
made-holds s step new h m = let P : State → Type 0 = Holds in subst P m.leads (record {
  ready = stays_ready s h.ready m.few m.room (store_reads s step) step m.plan m.is_plan;
  backed = stays_backed s h.backed step m.plan m.is_plan;
  sound = step_sound s h.ready h.backed h.sound step m.plan m.is_plan;
  calm = λ opened. stays_calm s h.ready (h.calm opened) (store_reads s step) step m.plan m.is_plan;
  fitting = fits-fitting s step m.plan h.fitting (step_keeps s h.ready h.backed h.sound step m.plan m.is_plan).may
      (plan-fits s h.ready h.backed h.fitting step m.plan m.is_plan);
  made = made-stays s.scene s.history (owner step) m.plan.note (plan-owner s (store_reads s step) step m.plan m.is_plan)
      (step_keeps s h.ready h.backed h.sound step m.plan m.is_plan).may h.made;
  held = applied-held s step m.plan h.sound (step_sound s h.ready h.backed h.sound step m.plan m.is_plan)
      (step_keeps s h.ready h.backed h.sound step m.plan m.is_plan).noes
      (allowed-promoted s.content (owner step) m.plan.write (write-allowed s h.backed step m.plan m.is_plan))
      (plan-now s (store_reads s step) step m.plan m.is_plan) h.held;
})

result-holds : (s : State) (step : Step) (r : Result State StepError) → Holds s → step_result s step ≡ r → Holds (or_as_it_was r s)
result-holds s step (Ok new) h e = made-holds s step new h (step-made s step new e)
result-holds s step (Err refusal) h e = h

-- the induction
pub steps-hold : (s : State) (steps : List Step) → Holds s → Holds (after s steps)
unfolding after
steps-hold s [] h = h
steps-hold s (step ∷ later) h = steps-hold (next_state s step) later (result-holds s step (step_result s step) h refl)

pub opening-holds : (scene : SceneModel) → IsScene scene → AreShort scene → Holds (opening scene)
opening-holds scene is short = record {
  ready = opening-ready scene is short;
  backed = opening-backed scene is;
  sound = opening_sound scene;
  calm = λ new none. opening_calm scene is;
  fitting = opening-fitting scene;
  made = made-none scene;
  held = opening-held scene;
}
