-- How a command ends.
-- Cited by Carryings, Checkings, Completions, Printings, Statuses, running.rt, specs/Answers, specs/Carried,
--   specs/Checked, specs/Completed, specs/Drawn, specs/Opened, specs/Repeated, status.rt, `carrying::carry_connected`;
--   other crates.
use Rattle.std.specs.Prelude.{◌≡◌, ℕ, true}
use Rattle.kt_store.specs.Content.{empty_content}
use Rattle.kt_store.specs.Stored.{Stored}
use Rattle.kt_core.specs.Store.{StoreValue, store_value}
use Rattle.kt_store.specs.declared.store.CkptStore.{Ghosts}
use Rattle.kt_model.specs.declared.error.StepError.{StepError}
use Rattle.kt_model.specs.declared.error.StepError.TheVariants as step
use Rattle.kt_core.specs.declared.world.OpenError.{OpenError}
use Rattle.kt_core.specs.declared.world.OpenError.TheVariants as opens
use Rattle.kt_core.specs.declared.resuming.ResumeError.{ResumeError}
use Rattle.kt_core.specs.declared.resuming.ResumeError.TheVariants as resumes
use Rattle.kt_core.specs.declared.start.Start.{Start}
use Rattle.kt_text.specs.declared.fault.SceneError.{SceneError}
use Rattle.kt_text.specs.declared.fault.SceneError.TheVariants as scene
use Rattle.kt_scene.specs.Outside.{Reader, Writer}
use Rattle.kt_scene.specs.Run.{WritesReplayed, IsReplayFault, LeavesWriter}
use Rattle.kt_scene.specs.declared.fault.ReplayFault.{ReplayFault}
use Rattle.kt_scene.specs.declared.fault.ReplayFault.TheVariants.{Scene, Step, Open, Resume, Report, Memory, Read}
use Rattle.kt_scene.specs.declared.fault.ReplayFault.TheVariants.{Write}
use Rattle.kt_stage.specs.declared.running.RunFault.{RunFault}
use Rattle.kt_stage.specs.declared.running.RunFault.TheVariants as runs
use Rattle.kt_run.specs.declared.fault.RunTextFault.{RunTextFault}
use Rattle.kt_run.specs.declared.fault.RunTextFault.TheVariants as texts
use Rattle.kt_run.specs.declared.running.Output.{Output}
use Rattle.kt_run.specs.Run.{IsRunTextFault, WritesRun, WritesRunFront}
use Rattle.kt_command.specs.declared.command.Command.{Command}
use Rattle.kt_command.specs.declared.command.Command.TheVariants.{Replay, Run, RunChaos}
use Rattle.kt_chaos.specs.declared.drawing.Chaos.{Chaos}
use Rattle.kt_trials.specs.Chaos.{IsChaosFault, WritesChaos, WritesChaosFront}

-- 3 for a fault of the scenario, but 6 where memory ran out
abbrev pub scene_status : SceneError → ℕ
scene_status scene.OutOfMemory = 6
scene_status _ = 3

-- 4 for a step that is not enabled, but 8 for one past the limit, 5 for a refusal of the store and 6 where memory ran
-- out
abbrev pub step_status : StepError → ℕ
step_status step.StepLimit = 8
step_status (step.Store refusal) = 5
step_status step.OutOfMemory = 6
step_status _ = 4

-- 5 for a store that is not fresh or refuses a call, and 6 where memory ran out
abbrev pub open_status : OpenError → ℕ
open_status opens.OutOfMemory = 6
open_status _ = 5

-- 5 for a store that does not fit the scene or refuses a call, and 6 where memory ran out
abbrev pub resume_status : ResumeError → ℕ
resume_status resumes.OutOfMemory = 6
resume_status _ = 5

-- the exit status that tells of a fault; 7 is for the streams
abbrev pub status_of : ReplayFault → ℕ
status_of (Scene line cause) = scene_status cause
status_of (Step at cause) = step_status cause
status_of (Open cause) = open_status cause
status_of (Resume cause) = resume_status cause
status_of (Report cause) = 5
status_of Memory = 6
status_of Read = 7
status_of Write = 7

-- the exit status that tells of a run's fault: 5 too where the seats do not fit the journal, or a node has a step
-- left
abbrev pub run_status : RunFault → ℕ
run_status (runs.Open cause) = open_status cause
run_status (runs.Resume cause) = resume_status cause
run_status (runs.Step at cause) = step_status cause
run_status (runs.Close cause) = 5
run_status runs.Memory = 6
run_status (runs.Unfinished node) = 5

abbrev pub run_text_status : RunTextFault → ℕ
run_text_status (texts.Text fault) = status_of fault
run_text_status (texts.Run fault) = run_status fault

-- A store was given, which was like this, and is left as it is when the command ends.

-- how a replay over a store ends: with 0 where what was read was replayed and its report written, and else with the
-- status of the fault, before which nothing is written, or of the writer's a front of the report
pub data EndsOver (start : Start) (was left : StoreValue) (before after : Reader) (old new : Writer) (n : ℕ)
    : Type 0 where
  done : n ≡ 0 → WritesReplayed start was left before after old new → EndsOver start was left before after old new n
  refused : (fault : ReplayFault) → IsReplayFault start was left before after fault
      → LeavesWriter start was left before after old new fault → n ≡ status_of fault
      → EndsOver start was left before after old new n

-- what a fault leaves of the writer: where the writer failed this front of what was to be there, and else all as it was
abbrev pub LeavesFront : (front : Type 0) → (old new : Writer) → RunTextFault → Type 0
LeavesFront front old new (texts.Text Write) = front
LeavesFront front old new fault = new ≡ old

-- how something ends that runs a scenario by threads: with 0 where the whole is written that was asked for, and else
-- with the status of one of these faults
pub data EndsByThreads (whole front : Type 0) (is_fault : RunTextFault → Type 0) (old new : Writer) (n : ℕ) : Type 0
  where
    ran : n ≡ 0 → whole → EndsByThreads whole front is_fault old new n
    stopped : (fault : RunTextFault) → is_fault fault → LeavesFront front old new fault → n ≡ run_text_status fault
        → EndsByThreads whole front is_fault old new n

-- how a run over a store ends: the whole is its report, or its journal
abbrev pub EndsRun : Start → (was left : StoreValue) → Output → (before after : Reader) (old new : Writer) → ℕ
    → Type 0
EndsRun start was left output before after old new n =
    EndsByThreads (WritesRun start was left output before after old new)
    (WritesRunFront start was left output before after old new) (IsRunTextFault start was left before after) old new n

-- the same of a run with random fault lines: the whole is each of these as a remark, and then the report or the journal
abbrev pub EndsChaos : Start → (was left : StoreValue) → Output → Chaos → (before after : Reader) (old new : Writer)
    → ℕ → Type 0
EndsChaos start was left output chaos before after old new n =
    EndsByThreads (WritesChaos start was left output chaos before after old new)
    (WritesChaosFront start was left output chaos before after old new) (IsChaosFault start was left chaos before after)
    old new n

-- how a command over a store ends
abbrev pub EndsCommand : (was left : StoreValue) → Command → (before after : Reader) (old new : Writer) → ℕ → Type 0
EndsCommand was left (Replay start) before after old new n = EndsOver start was left before after old new n
EndsCommand was left (Run start output) before after old new n = EndsRun start was left output before after old new n
EndsCommand was left (RunChaos start output chaos) before after old new n =
    EndsChaos start was left output chaos before after old new n

-- how a command over this store of a kind ends, which is left like that one
abbrev pub EndsAs : {S : Type 0} → Ghosts S → (store left : S) → Command → (before after : Reader)
    (old new : Writer) → ℕ → Type 0
EndsAs kind store left = EndsCommand (store_value kind store) (store_value kind left)

-- a store in memory, which is always honest, and whose device never fails
abbrev pub memory_value : Stored → StoreValue
memory_value s = record { content = s.content; is_honest = true; counts = record { faults = 0; wants = s.wants } }

-- nothing is stored on it, and memory was never refused
abbrev pub fresh_memory : Stored
fresh_memory = record { content = empty_content; wants = 0 }

-- how a command over a fresh store in memory ends
pub record EndsInMemory (command : Command) (before after : Reader) (old new : Writer) (n : ℕ) : Type 0 where
  pub left : Stored
  pub ends : EndsCommand (memory_value fresh_memory) (memory_value left) command before after old new n
