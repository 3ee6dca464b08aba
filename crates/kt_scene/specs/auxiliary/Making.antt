-- What making the steps of a scenario answers.
-- Cited by replaying.rt.
use Rattle.std.specs.Prelude.{◌≡◌, ℕ, List, IsTrue, Err}
use Rattle.kt_scenario.specs.declared.step.Step.{Step}
use Rattle.kt_model.specs.declared.error.StepError.{StepError}
use Rattle.kt_scenario.specs.Scene.{SceneModel}
use Rattle.kt_core.specs.Store.{StoreValue}
use Rattle.kt_core.specs.Stepping.{step_counted}
use Rattle.kt_core.specs.Starting.{Begins, IsErrorOf, IsUnbegun}
use Rattle.kt_core.specs.declared.start.Start.{Start}
use Rattle.kt_core.specs.declared.start.StartError.{StartError}
use Rattle.kt_core.specs.declared.start.StartError.TheVariants as unbegun
use Rattle.kt_model.specs.State.{State}
use Rattle.kt_scene.specs.Runs.{IsRefusedAt}
use Rattle.kt_scene.specs.declared.fault.ReplayFault.{ReplayFault}
use Rattle.kt_scene.specs.declared.fault.ReplayFault.TheVariants as faults

-- the first step of a scenario that was refused, and the store that was left
pub record IsRunRefused (start : Start) (was left : StoreValue) (scene : SceneModel) (steps : List Step) (at : ℕ)
    (cause : StepError) : Type 0 where
  pub first : State
  pub begins : IsTrue left.is_honest → Begins start was.content scene first
  pub refused : IsTrue left.is_honest → IsRefusedAt first steps at cause left.content
  pub counts : left.counts ≡ step_counted {T = Unit {0}} (Err cause) was.counts

-- the world of the scene did not begin so
abbrev pub IsNoStart : Start → (was left : StoreValue) → SceneModel → StartError → Type 0
IsNoStart start was left scene cause = IsErrorOf start cause × IsUnbegun scene was left cause

-- what making the steps of a scenario answers: that the world did not begin over the store, or the first step refused
abbrev pub IsRunFault : Start → (was left : StoreValue) → SceneModel → List Step → ReplayFault → Type 0
IsRunFault start was left scene steps (faults.Scene line cause) = ⊥
IsRunFault start was left scene steps (faults.Step at cause) = IsRunRefused start was left scene steps at cause
IsRunFault start was left scene steps (faults.Open cause) = IsNoStart start was left scene (unbegun.Open cause)
IsRunFault start was left scene steps (faults.Resume cause) = IsNoStart start was left scene (unbegun.Resume cause)
IsRunFault start was left scene steps (faults.Report cause) = ⊥
IsRunFault start was left scene steps faults.Memory = ⊥
IsRunFault start was left scene steps faults.Read = ⊥
IsRunFault start was left scene steps faults.Write = ⊥
