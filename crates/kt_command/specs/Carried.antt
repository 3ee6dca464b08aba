-- How a command ends that carries the store in a file over.
-- Cited by Carryings, carrying.rt, specs/Opened.
use Rattle.std.specs.Prelude.{◌≡◌, ◌≢◌, ℕ, List, Result, Ok, Err}
use Rattle.kt_store.specs.Content.{Content}
use Rattle.kt_store.specs.Stored.{Stored}
use Rattle.kt_scene.specs.declared.fault.ReplayFault.{ReplayFault}
use Rattle.kt_scene.specs.declared.fault.ReplayFault.TheVariants.{Write}
use Rattle.kt_scene.specs.Outside.{Reader, Writer}
use Rattle.kt_scene.specs.Run.{IsReplayedReport, IsReplayFault, WritesReplayed, WritesReplayedFront}
use Rattle.kt_core.specs.declared.start.Start.TheVariants as starts
use Rattle.kt_command.specs.Command.{Text}
use Rattle.kt_command.specs.Status.{fresh_memory, memory_value, status_of}

-- over a connection to the file: with 0 where it was carried over by what the scenario that was read left in a fresh
-- store in memory, and the report is written; with 7 where the writer failed then; with 5 where it was not carried
-- over; and with the status of a fault before that. Nothing is written but by the first two
pub data EndsCarrying {C F : Type 0} (carries : C → Content → Result (Unit {0}) F → Type 0) (connection : C)
    (before after : Reader) (old new : Writer) (n : ℕ) : Type 0 where
  done : (left : Stored) → carries connection left.content (Ok tt)
      → WritesReplayed starts.Open (memory_value fresh_memory) (memory_value left) before after old new → n ≡ 0
      → EndsCarrying carries connection before after old new n
  unwritten : (left : Stored) → carries connection left.content (Ok tt)
      → WritesReplayedFront starts.Open (memory_value fresh_memory) (memory_value left) before after old new → n ≡ 7
      → EndsCarrying carries connection before after old new n
  refused : (left : Stored) (fault : F) (report : List ℕ) → carries connection left.content (Err fault)
      → IsReplayedReport starts.Open (memory_value fresh_memory) (memory_value left) before after report → new ≡ old
      → n ≡ 5
      → EndsCarrying carries connection before after old new n
  stopped : (left : Stored) (fault : ReplayFault)
      → IsReplayFault starts.Open (memory_value fresh_memory) (memory_value left) before after fault
      → fault ≢ Write → new ≡ old → n ≡ status_of fault
      → EndsCarrying carries connection before after old new n

-- over what connecting to the file answered: where there is no connection, with 5, nothing read and nothing written
abbrev pub EndsConnected : {C F : Type 0} → (C → Content → Result (Unit {0}) F → Type 0) → Result C F
    → (before after : Reader) (old new : Writer) → ℕ → Type 0
EndsConnected carries (Ok connection) before after old new n = EndsCarrying carries connection before after old new n
EndsConnected carries (Err fault) before after old new n = (n ≡ 5) × (after ≡ before) × (new ≡ old)

-- over the file at the path: over one answer, which may be given for this path
pub record EndsCarried {C F : Type 0} (connects : Text → Result C F → Type 0)
    (carries : C → Content → Result (Unit {0}) F → Type 0) (path : Text) (before after : Reader) (old new : Writer)
    (n : ℕ) : Type 0 where
  pub answer : Result C F
  pub given : connects path answer
  pub ends : EndsConnected carries answer before after old new n
