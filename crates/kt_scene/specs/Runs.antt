-- Making steps one after the other.
-- Cited by Runs, replaying.rt, specs/Run, specs/auxiliary/Making, `replaying::make_steps`; other crates.
use Rattle.std.specs.Prelude.{◌≡◌, ℕ, ◌+◌, true, List, [], ◌∷◌, ◌++◌, length, Err, IsTrue, Ok}
use Rattle.kt_scenario.specs.declared.step.Step.{Step}
use Rattle.kt_model.specs.declared.error.StepError.{StepError}
use Rattle.kt_store.specs.Content.{Content}
use Rattle.kt_scenario.specs.Scene.{SceneModel}
use Rattle.kt_core.specs.Starting.{Begins}
use Rattle.kt_core.specs.declared.start.Start.{Start}
use Rattle.kt_model.specs.State.{State}
use Rattle.kt_model.specs.StepPlan.{step_plan}
use Rattle.kt_model.specs.Effect.{step_result}
use Rattle.kt_core.specs.Stepping.{IsCalledFor, IsCause, Refuses, step_counted}
use Rattle.kt_core.specs.World.{WorldModel}
use Rattle.kt_scene.specs.declared.fault.ReplayFault.{ReplayFault}
use Rattle.kt_scene.specs.declared.fault.ReplayFault.TheVariants as faults

-- each of the steps is made, in order, and they lead from the one state to the other
abbrev pub RunsTo : State → List Step → State → Type 0
RunsTo old [] new = new ≡ old
RunsTo old (step ∷ later) new = (between : State) × (step_result old step ≡ Ok between) × RunsTo between later new

-- these steps lead to the state from the first one of the scene's world, which began so over a store with this content
pub record BeginsAndRunsTo (start : Start) (c : Content) (scene : SceneModel) (steps : List Step) (s : State) : Type 0
  where
    pub first : State
    pub begins : Begins start c scene first
    pub runs : RunsTo first steps s

-- the step with this number, counted from 1, is the first that is refused, for this cause. An honest store refuses for
-- no damage, for being full only where it has no number left, and holds what it held before that step.
pub record IsRefusedAt (old : State) (steps : List Step) (at : ℕ) (cause : StepError) (left : Content) : Type 0 where
  pub made : List Step
  pub refused : Step
  pub later : List Step
  pub split : steps ≡ made ++ refused ∷ later
  pub count : at ≡ length made + 1
  pub reached : State
  pub runs : RunsTo old made reached
  pub refusal : Refuses cause (step_plan reached refused)
  pub called : IsCalledFor reached refused cause
  pub why : IsCause reached refused true cause
  pub content : left ≡ reached.content

-- the step that was refused, as long as the store is honest, and what the store counts of it
pub record IsStepRefused (old new : WorldModel) (steps : List Step) (at : ℕ) (cause : StepError) : Type 0 where
  pub refused : IsTrue new.is_honest → IsRefusedAt old.state steps at cause new.state.content
  pub counts : new.counts ≡ step_counted {T = Unit {0}} (Err cause) old.counts

-- what making steps alone answers: the first step refused
abbrev pub IsStepFault : (old new : WorldModel) → List Step → ReplayFault → Type 0
IsStepFault old new steps (faults.Scene line cause) = ⊥
IsStepFault old new steps (faults.Step at cause) = IsStepRefused old new steps at cause
IsStepFault old new steps (faults.Open cause) = ⊥
IsStepFault old new steps (faults.Resume cause) = ⊥
IsStepFault old new steps (faults.Report cause) = ⊥
IsStepFault old new steps faults.Memory = ⊥
IsStepFault old new steps faults.Read = ⊥
IsStepFault old new steps faults.Write = ⊥
