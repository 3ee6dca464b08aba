-- How a command ends, told from what it answers.
-- Cited by `repeating::repeat_in_memory`, `running::run_in_memory`, `running::run_returning_store`.
use Rattle.std.proofs.Common.{◌≡◌, ℕ, Result, Ok, Err, refl, ap, subst}
use Rattle.std.specs.Prelude.{OnOk, IfErr}
use Rattle.kt_store.specs.Stored.{Stored}
use Rattle.kt_core.specs.Store.{StoreValue}
use Rattle.kt_core.specs.declared.start.Start.{Start}
use Rattle.kt_scene.specs.declared.fault.ReplayFault.{ReplayFault}
use Rattle.kt_scene.specs.declared.fault.ReplayFault.TheVariants as faults
use Rattle.kt_scene.specs.Outside.{Reader, Writer}
use Rattle.kt_scene.specs.Run.{WritesReplayed, WritesReplayedFront, LeavesWriter, IsReplayFault}
use Rattle.kt_scene.specs.Stream.{UnlessWrite}
use Rattle.kt_run.specs.declared.fault.RunTextFault.{RunTextFault}
use Rattle.kt_run.specs.declared.fault.RunTextFault.TheVariants as texts
use Rattle.kt_run.specs.Run.{UnlessFront}
use Rattle.kt_command.specs.declared.command.Command.{Command}
use Rattle.kt_command.specs.Answers.{answer_status, run_answer_status}
use Rattle.kt_command.specs.Status.{EndsByThreads, EndsCommand, EndsInMemory, EndsOver, LeavesFront, fresh_memory, memory_value, done, ran, refused, stopped}

module _ (start : Start) (was left : StoreValue) where
  -- what a fault leaves of the writer, by its case
  leaves_writer : (before after : Reader) (old new : Writer) (fault : ReplayFault) → UnlessWrite fault (new ≡ old)
      → (fault ≡ faults.Write → WritesReplayedFront start was left before after old new) → LeavesWriter start was left before after old new fault
  leaves_writer before after old new (faults.Scene line cause) kept front = kept
  leaves_writer before after old new (faults.Step at cause) kept front = kept
  leaves_writer before after old new (faults.Open cause) kept front = kept
  leaves_writer before after old new (faults.Resume cause) kept front = kept
  leaves_writer before after old new (faults.Report cause) kept front = kept
  leaves_writer before after old new faults.Memory kept front = kept
  leaves_writer before after old new faults.Read kept front = kept
  leaves_writer before after old new faults.Write kept front = front refl

  -- the status of what a replay over a store answers
  pub status_told : {X : Type 0} (before after : Reader) (old new : Writer) (answer : Result X ReplayFault) (n : ℕ)
      → n ≡ answer_status answer → OnOk answer (WritesReplayed start was left before after old new)
      → (answer ≡ Err faults.Write → WritesReplayedFront start was left before after old new)
      → IfErr answer (IsReplayFault start was left before after) → IfErr answer (λ fault. UnlessWrite fault (new ≡ old))
      → EndsOver start was left before after old new n
  status_told before after old new (Ok x) n is written front fault nothing = done is written
  status_told before after old new (Err why) n is written front fault nothing =
      refused why fault (leaves_writer before after old new why nothing (λ same. front (ap (λ (f : ReplayFault). Err f) same))) is

-- the same of what runs a scenario by threads
leaves_front : (front : Type 0) (old new : Writer) (fault : RunTextFault) → UnlessFront fault (new ≡ old)
    → (fault ≡ texts.Text faults.Write → front) → LeavesFront front old new fault
leaves_front front old new (texts.Text (faults.Scene line cause)) kept some = kept
leaves_front front old new (texts.Text (faults.Step at cause)) kept some = kept
leaves_front front old new (texts.Text (faults.Open cause)) kept some = kept
leaves_front front old new (texts.Text (faults.Resume cause)) kept some = kept
leaves_front front old new (texts.Text (faults.Report cause)) kept some = kept
leaves_front front old new (texts.Text faults.Memory) kept some = kept
leaves_front front old new (texts.Text faults.Read) kept some = kept
leaves_front front old new (texts.Text faults.Write) kept some = some refl
leaves_front front old new (texts.Run fault) kept some = kept

-- the status of what that answers
pub run_told : {X : Type 0} (whole front : Type 0) (is_fault : RunTextFault → Type 0) (old new : Writer) (answer : Result X RunTextFault) (n : ℕ)
    → n ≡ run_answer_status answer → OnOk answer whole → (answer ≡ Err (texts.Text faults.Write) → front) → IfErr answer is_fault
    → IfErr answer (λ fault. UnlessFront fault (new ≡ old)) → EndsByThreads whole front is_fault old new n
run_told whole front is_fault old new (Ok x) n is written some fault nothing = ran is written
run_told whole front is_fault old new (Err why) n is written some fault nothing =
    stopped why fault (leaves_front front old new why nothing (λ same. some (ap (λ (f : RunTextFault). Err f) same))) is

-- a fresh one in memory is the program's
pub in_memory_told : (was left : Stored) (command : Command) (before after : Reader) (old new : Writer) (n : ℕ) → was ≡ fresh_memory
    → EndsCommand (memory_value was) (memory_value left) command before after old new n → EndsInMemory command before after old new n
in_memory_told was left command before after old new n e ends =
    record { left = left; ends = subst (λ (s : Stored). EndsCommand (memory_value s) (memory_value left) command before after old new n) e ends }
