-- What a run from bytes to bytes answers, and what it leaves read and written.
-- Cited by Outcomes, Replayed, laws.rt, running.rt, `running::run_read`, `running::run_text_returning_store`,
--   `running::run_told`; other crates.
use Rattle.std.specs.Prelude.{◌≡◌, ℕ, Bool, List, IsTrue, None}
use Rattle.kt_store.specs.Calls.{Counts}
use Rattle.kt_store.specs.Content.{Content}
use Rattle.kt_core.specs.Store.{AreLater, StoreValue}
use Rattle.kt_scenario.specs.declared.faults.FaultLine.{FaultLine}
use Rattle.kt_core.specs.declared.start.Start.{Start}
use Rattle.kt_scenario.specs.declared.step.Step.{Step}
use Rattle.kt_model.specs.State.{State}
use Rattle.kt_scene.specs.declared.fault.ReplayFault.{ReplayFault}
use Rattle.kt_scene.specs.declared.fault.ReplayFault.TheVariants as faults
use Rattle.kt_text.specs.declared.scenario.WorkKind.TheVariants as kinds
use Rattle.kt_text.specs.Faults.{Explains}
use Rattle.kt_scene.specs.Journal.{WritesJournal, WritesJournalFront}
use Rattle.kt_scene.specs.Outside.{Reader, Writer}
use Rattle.kt_text.specs.Reading.{ScenarioModel}
use Rattle.kt_scene.specs.Report.{WritesReport, WritesReportFront}
use Rattle.kt_scene.specs.Runs.{BeginsAndRunsTo}
use Rattle.kt_text.specs.Scenario.{IsScenario}
use Rattle.kt_scene.specs.Stream.{IsAllRead, IsReadFault, IsReportFault, UnlessWrite}
use Rattle.kt_text.specs.Work.{Faults}
use Rattle.kt_stage.specs.declared.running.RunFault.{RunFault}
use Rattle.kt_stage.specs.Policy.{first_unfinished, spent_by}
use Rattle.kt_stage.specs.Running.{IsStopped}
use Rattle.kt_run.specs.declared.fault.RunTextFault.{RunTextFault}
use Rattle.kt_run.specs.declared.fault.RunTextFault.TheVariants.{Text, Run}
use Rattle.kt_run.specs.declared.running.Output.{Output}
use Rattle.kt_run.specs.declared.running.Output.TheVariants as outputs

-- the text is that of a scenario of these fault lines
pub record IsTrial (text : List ℕ) (model : ScenarioModel) (lines : List FaultLine) : Type 0 where
  pub scenario : IsScenario text model
  pub faults : model.work ≡ Faults lines

-- A world begins so (`Start`): it is opened, or resumed.

-- the text is that of a scenario of fault lines; as long as the store is honest, these steps led to this state from the
-- first one of the scene's world, which began so over a store with this content, and there no node has a next step, the
-- fault lines being spent by the steps
pub record IsRunOf (start : Start) (text : List ℕ) (is_honest : Bool) (c : Content) (steps : List Step) (s : State)
    : Type 0 where
  pub model : ScenarioModel
  pub lines : List FaultLine
  pub trial : IsTrial text model lines
  pub runs : IsTrue is_honest → BeginsAndRunsTo start c model.scene steps s
  pub ended : IsTrue is_honest → first_unfinished s (spent_by lines steps) ≡ None

-- what was read is such a text
pub record IsRun (start : Start) (before after : Reader) (is_honest : Bool) (c : Content) (steps : List Step)
    (s : State) : Type 0 where
  pub text : List ℕ
  pub read : IsAllRead before after text
  pub run : IsRunOf start text is_honest c steps s

-- ---- what is written

abbrev pub Writes : Output → Bool → State → List Step → Writer → Writer → Type 0
Writes outputs.Report is_honest s steps old new = WritesReport is_honest s old new
Writes outputs.Journal is_honest s steps old new = WritesJournal is_honest s steps old new

abbrev pub WritesFront : Output → Bool → State → List Step → Writer → Writer → Type 0
WritesFront outputs.Report is_honest s steps old new = WritesReportFront is_honest s old new
WritesFront outputs.Journal is_honest s steps old new = WritesJournalFront is_honest s steps old new

-- what is written and passed on is the report of the state that some run of the scenario that was read ended in, or
-- that report with the steps of the run, and nothing else, and the store holds what it holds in that state. If it is
-- honest then, it was so all the time.
pub record WritesRun (start : Start) (was left : StoreValue) (output : Output) (before after : Reader)
    (old new : Writer) : Type 0 where
  pub steps : List Step
  pub state : State
  pub run : IsRun start before after left.is_honest was.content steps state
  pub kept : IsTrue left.is_honest → left.content ≡ state.content
  pub later : AreLater was.counts left.counts
  pub written : Writes output left.is_honest state steps old new

-- the writer failed, and a front of that is written
pub record WritesRunFront (start : Start) (was left : StoreValue) (output : Output) (before after : Reader)
    (old new : Writer) : Type 0 where
  pub steps : List Step
  pub state : State
  pub run : IsRun start before after left.is_honest was.content steps state
  pub kept : IsTrue left.is_honest → left.content ≡ state.content
  pub later : AreLater was.counts left.counts
  pub written : WritesFront output left.is_honest state steps old new

-- ---- faults

-- P, unless the fault is the writer's
abbrev pub UnlessFront : RunTextFault → Type 0 → Type 0
UnlessFront (Text fault) P = UnlessWrite fault P
UnlessFront (Run fault) P = P

-- the text is that of a scenario of fault lines, whose run did not come to its end
pub record IsStoppedTrial (start : Start) (was left : StoreValue) (text : List ℕ) (fault : RunFault) : Type 0 where
  pub model : ScenarioModel
  pub lines : List FaultLine
  pub trial : IsTrial text model lines
  pub why : IsStopped start was left model.scene lines fault

-- what a text answers: its first fault, or want of memory before that, and the store that was given is left; or why its
-- run did not come to its end
abbrev pub IsTextFault : Start → (was left : StoreValue) → List ℕ → RunTextFault → Type 0
IsTextFault start was left text (Text (faults.Scene line cause)) = Explains kinds.Faults text line cause × (left ≡ was)
IsTextFault start was left text (Text (faults.Step at cause)) = ⊥
IsTextFault start was left text (Text (faults.Open cause)) = ⊥
IsTextFault start was left text (Text (faults.Resume cause)) = ⊥
IsTextFault start was left text (Text (faults.Report cause)) = ⊥
IsTextFault start was left text (Text faults.Memory) = ⊥
IsTextFault start was left text (Text faults.Read) = ⊥
IsTextFault start was left text (Text faults.Write) = ⊥
IsTextFault start was left text (Run fault) = IsStoppedTrial start was left text fault

-- what comes before the writing answers: what reading alone answers, and the store that was given is left; or what the
-- text that was read answers
pub data IsRunFault (start : Start) (was left : StoreValue) (before after : Reader) : RunTextFault → Type 0 where
  of_reading : {fault : ReplayFault} → IsReadFault before after fault → left ≡ was
      → IsRunFault start was left before after (Text fault)
  of_text : {fault : RunTextFault} (text : List ℕ) → IsAllRead before after text
      → IsTextFault start was left text fault → IsRunFault start was left before after fault

-- the run ended, with these counts of the store, and what a report alone answers came then
pub record IsFaultInWriting (start : Start) (was left : StoreValue) (before after : Reader) (fault : ReplayFault)
    : Type 0 where
  pub steps : List Step
  pub state : State
  pub run : IsRun start before after left.is_honest was.content steps state
  pub kept : IsTrue left.is_honest → left.content ≡ state.content
  pub counts : Counts
  pub later : AreLater was.counts counts
  pub is : IsReportFault counts left.counts left.is_honest fault

-- what a run from bytes to bytes answers before it writes; or, once the run has ended, a refusal of the store, want of
-- memory or a failure of the writer
pub data IsRunTextFault (start : Start) (was left : StoreValue) (before after : Reader) : RunTextFault → Type 0 where
  before_writing : {fault : RunTextFault} → IsRunFault start was left before after fault
      → IsRunTextFault start was left before after fault
  in_writing : {fault : ReplayFault} → IsFaultInWriting start was left before after fault
      → IsRunTextFault start was left before after (Text fault)
