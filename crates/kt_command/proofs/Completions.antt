-- How a completion ends, told from what it answers.
-- Cited by `completing::complete_in_memory`.
use Rattle.std.proofs.Common.{◌≡◌, ℕ, Result, Ok, Err, refl, ap, subst}
use Rattle.std.specs.Prelude.{OnOk, IfErr}
use Rattle.kt_store.specs.Stored.{Stored}
use Rattle.kt_core.specs.Store.{StoreValue}
use Rattle.kt_core.specs.declared.start.Start.TheVariants as starts
use Rattle.kt_scene.specs.declared.fault.ReplayFault.{ReplayFault}
use Rattle.kt_scene.specs.declared.fault.ReplayFault.TheVariants as faults
use Rattle.kt_scene.specs.Outside.{Reader, Writer}
use Rattle.kt_scene.specs.Stream.{UnlessWrite}
use Rattle.kt_complete.specs.Completion.{IsCompletionFault, WritesCompleted, WritesCompletedFront}
use Rattle.kt_command.specs.Answers.{answer_status}
use Rattle.kt_command.specs.Completed.{EndsCompleted, EndsCompletion, LeavesJournal, completed, stopped}
use Rattle.kt_command.specs.Status.{fresh_memory, memory_value}

module _ (was left : StoreValue) (before after : Reader) (old new : Writer) where
  -- what a fault leaves of the writer, by its case
  leaves_journal : (fault : ReplayFault) → UnlessWrite fault (new ≡ old)
      → (fault ≡ faults.Write → WritesCompletedFront starts.Open was left before after old new) → LeavesJournal was left before after old new fault
  leaves_journal (faults.Scene line cause) kept front = kept
  leaves_journal (faults.Step at cause) kept front = kept
  leaves_journal (faults.Open cause) kept front = kept
  leaves_journal (faults.Resume cause) kept front = kept
  leaves_journal (faults.Report cause) kept front = kept
  leaves_journal faults.Memory kept front = kept
  leaves_journal faults.Read kept front = kept
  leaves_journal faults.Write kept front = front refl

  completion_told : {X : Type 0} (answer : Result X ReplayFault) (n : ℕ) → n ≡ answer_status answer
      → OnOk answer (WritesCompleted starts.Open was left before after old new)
      → (answer ≡ Err faults.Write → WritesCompletedFront starts.Open was left before after old new)
      → IfErr answer (IsCompletionFault starts.Open was left before after) → IfErr answer (λ fault. UnlessWrite fault (new ≡ old))
      → EndsCompletion was left before after old new n
  completion_told (Ok x) n is written front fault nothing = completed is written
  completion_told (Err why) n is written front fault nothing =
      stopped why fault (leaves_journal why nothing (λ same. front (ap (λ (f : ReplayFault). Err f) same))) is

-- a fresh store in memory is the program's
pub completed_told : {X : Type 0} (was left : Stored) (before after : Reader) (old new : Writer) (answer : Result X ReplayFault) (n : ℕ)
    → was ≡ fresh_memory → n ≡ answer_status answer
    → OnOk answer (WritesCompleted starts.Open (memory_value was) (memory_value left) before after old new)
    → (answer ≡ Err faults.Write → WritesCompletedFront starts.Open (memory_value was) (memory_value left) before after old new)
    → IfErr answer (IsCompletionFault starts.Open (memory_value was) (memory_value left) before after)
    → IfErr answer (λ fault. UnlessWrite fault (new ≡ old)) → EndsCompleted before after old new n
completed_told was left before after old new answer n fresh is written front fault nothing =
    let ends = completion_told (memory_value was) (memory_value left) before after old new answer n is written front fault nothing in
    record { left = left; ends = subst (λ (s : Stored). EndsCompletion (memory_value s) (memory_value left) before after old new n) fresh ends }
