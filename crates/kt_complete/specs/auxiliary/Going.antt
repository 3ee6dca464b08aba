-- What making the policy's steps answers.
-- Cited by Onward, Stops, completing.rt, going.rt, `completing::begin_and_complete`, `completing::completed_told`,
--   `going::go_on`.
use Rattle.std.specs.Prelude.{◌≡◌, ℕ, ◌+◌, ◌≤◌, List, ◌++◌, length, Option, Some, None, Result, Ok, Err, IsTrue}
use Rattle.kt_scenario.specs.declared.step.Step.{Step}
use Rattle.kt_scenario.specs.declared.step.TheConstants.{MAX_STEPS}
use Rattle.kt_store.specs.Calls.{Counts}
use Rattle.kt_model.specs.Effect.{step_result}
use Rattle.kt_core.specs.Stepping.{step_counted}
use Rattle.kt_core.specs.Store.{StoreValue}
use Rattle.kt_core.specs.World.{WorldModel, store_of}
use Rattle.kt_core.specs.declared.start.Start.{Start}
use Rattle.kt_scene.specs.declared.fault.ReplayFault.{ReplayFault}
use Rattle.kt_scene.specs.declared.fault.ReplayFault.TheVariants as faults
use Rattle.kt_scene.specs.Run.{IsTextFault}
use Rattle.kt_complete.specs.Completion.{GoesOn, IsGoingFault, IsHeldUp, next_of_all}

-- the step that was next was made, or no node has one
abbrev pub MakesNext : (old new : WorldModel) → Option Step → Type 0
MakesNext old new None =
    IsTrue new.is_honest → (new.state ≡ old.state) × (next_of_all new.state ≡ None)
MakesNext old new (Some step) =
    IsTrue new.is_honest → (next_of_all old.state ≡ Some step) × (step_result old.state step ≡ Ok new.state)

-- a step that was made is one of those that a world makes
abbrev pub IsOneMore : (old new : WorldModel) → Option Step → Type 0
IsOneMore old new None = Unit {0}
IsOneMore old new (Some step) = (new.state.made ≡ old.state.made + 1) × (old.state.made + 1 ≤ MAX_STEPS)

-- the policy's steps that were made stand behind those that were listed before
pub record WentOn (old new : WorldModel) (before after : List Step) : Type 0 where
  pub later : List Step
  pub are : after ≡ before ++ later
  pub goes : IsTrue new.is_honest → GoesOn old.state later new.state
  pub honest : IsTrue new.is_honest → IsTrue old.is_honest

-- why no more steps were made, once these were
abbrev pub IsStop : Counts → WorldModel → List Step → ReplayFault → Type 0
IsStop before new steps (faults.Scene line cause) = ⊥
IsStop before new steps (faults.Step at cause) =
    (at ≡ length steps + 1) × IsHeldUp new.state new.is_honest cause
    × (new.counts ≡ step_counted {T = Unit {0}} (Err cause) before)
IsStop before new steps (faults.Open cause) = ⊥
IsStop before new steps (faults.Resume cause) = ⊥
IsStop before new steps (faults.Report cause) = ⊥
IsStop before new steps faults.Memory = new.counts ≡ before
IsStop before new steps faults.Read = ⊥
IsStop before new steps faults.Write = ⊥

-- no node has a next step, and the store refused no call
pub record IsOver (before : Counts) (new : WorldModel) : Type 0 where
  pub over : IsTrue new.is_honest → next_of_all new.state ≡ None
  pub counts : new.counts ≡ before

-- how going on ended
abbrev pub EndsSo : {X : Type 0} → Counts → WorldModel → List Step → Result X ReplayFault → Type 0
EndsSo before new steps (Ok x) = IsOver before new
EndsSo before new steps (Err fault) = IsStop before new steps fault

-- the steps that were made when going on ended early, and the store as they left it
pub record IsStopped (old : WorldModel) (before : List Step) (left : StoreValue) (fault : ReplayFault) : Type 0 where
  pub new : WorldModel
  pub steps : List Step
  pub store : left ≡ store_of new
  pub went : WentOn old new before steps
  pub why : IsStop old.counts new steps fault

-- what a text answers before its journal
pub data IsTextStop (start : Start) (was left : StoreValue) (text : List ℕ) (fault : ReplayFault) : Type 0 where
  of_replay : IsTextFault start was left text fault → IsTextStop start was left text fault
  of_going : IsGoingFault start was left text fault → IsTextStop start was left text fault
