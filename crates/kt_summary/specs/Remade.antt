-- Steps made once more: what they lead to, and which of them made each note.
-- Cited by Making, remaking.rt.
use Rattle.std.specs.Prelude.{◌≡◌, ◌<◌, ◌≤◌, ◌-◌, ℕ, List, take, length, Some, slice_get, Ok}
use Rattle.kt_scenario.specs.declared.step.Step.{Step}
use Rattle.kt_store.specs.Content.{Content}
use Rattle.kt_model.specs.State.{State}
use Rattle.kt_stage.specs.Journal.{all_made}

-- the note with so many before it was made by the step of this number, counted from 1: the steps before that one lead
-- to a history that does not have it yet, and with that one to a history that has it
pub record IsMadeBy (first : State) (steps : List Step) (place number : ℕ) : Type 0 where
  pub before : State
  pub leads_before : all_made first (take (number - 1) steps) ≡ Ok before
  pub not_yet : length before.history ≤ place
  pub after : State
  pub leads_after : all_made first (take number steps) ≡ Ok after
  pub by_then : place < length after.history

-- the steps lead to this state, and these are the numbers of those that made its notes
pub record AreMakers (first : State) (steps : List Step) (s : State) (makers : List ℕ) : Type 0 where
  pub leads : all_made first steps ≡ Ok s
  pub lengths : length makers ≡ length s.history
  pub each : (place number : ℕ) → slice_get makers place ≡ Some number → IsMadeBy first steps place number

-- the same of the state in which this is stored
pub record IsRemade (first : State) (steps : List Step) (c : Content) (makers : List ℕ) : Type 0 where
  pub state : State
  pub stored : c ≡ state.content
  pub are_makers : AreMakers first steps state makers
