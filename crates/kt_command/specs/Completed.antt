-- How a completion of a scenario ends, over a fresh store in memory.
-- Cited by Completions, completing.rt, specs/Opened.
use Rattle.std.specs.Prelude.{◌≡◌, ℕ}
use Rattle.kt_store.specs.Stored.{Stored}
use Rattle.kt_complete.specs.Completion.{IsCompletionFault, WritesCompleted, WritesCompletedFront}
use Rattle.kt_core.specs.Store.{StoreValue}
use Rattle.kt_core.specs.declared.start.Start.TheVariants as starts
use Rattle.kt_scene.specs.Outside.{Reader, Writer}
use Rattle.kt_scene.specs.declared.fault.ReplayFault.{ReplayFault}
use Rattle.kt_scene.specs.declared.fault.ReplayFault.TheVariants as faults
use Rattle.kt_command.specs.Status.{fresh_memory, memory_value, status_of}

-- what a completion leaves of the writer where it ends with this fault: a front of the journal where the writer failed,
-- and else all as it was
abbrev pub LeavesJournal : (was left : StoreValue) → (before after : Reader) (old new : Writer) → ReplayFault → Type 0
LeavesJournal was left before after old new faults.Write =
    WritesCompletedFront starts.Open was left before after old new
LeavesJournal was left before after old new fault = new ≡ old

-- over a store that was like this, and is left like that: with 0 where the scenario that was read was completed and the
-- journal written, and else with the status of the fault
pub data EndsCompletion (was left : StoreValue) (before after : Reader) (old new : Writer) (n : ℕ) : Type 0 where
  completed : n ≡ 0 → WritesCompleted starts.Open was left before after old new
      → EndsCompletion was left before after old new n
  stopped : (fault : ReplayFault) → IsCompletionFault starts.Open was left before after fault
      → LeavesJournal was left before after old new fault → n ≡ status_of fault
      → EndsCompletion was left before after old new n

-- over a fresh store in memory
pub record EndsCompleted (before after : Reader) (old new : Writer) (n : ℕ) : Type 0 where
  pub left : Stored
  pub ends : EndsCompletion (memory_value fresh_memory) (memory_value left) before after old new n
