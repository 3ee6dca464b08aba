-- What a run with random faults writes, and what it answers.
-- Cited by Behind, chaos.rt, specs/auxiliary/Laying, `chaos::laid_read`, `chaos::run_chaos_returning_store`; other
--   crates.
use Rattle.std.specs.Prelude.{◌≡◌, ℕ, List, ◌++◌, map, IsTrue, Some}
use Rattle.std.specs.List.{flat_map}
use Rattle.kt_scenario.specs.Scene.{SceneModel}
use Rattle.kt_scenario.specs.declared.faults.Fault.{Fault}
use Rattle.kt_scenario.specs.declared.faults.FaultLine.{FaultLine}
use Rattle.kt_scenario.specs.declared.step.Step.{Step}
use Rattle.kt_model.specs.State.{State}
use Rattle.kt_core.specs.Store.{AreLater, StoreValue}
use Rattle.kt_core.specs.declared.start.Start.{Start}
use Rattle.kt_text.specs.Faults.{Explains}
use Rattle.kt_text.specs.Reading.{ScenarioModel}
use Rattle.kt_text.specs.Text.{fault_text, scenario_text}
use Rattle.kt_text.specs.Work.{Faults, unspent}
use Rattle.kt_text.specs.declared.fault.SceneError.{SceneError}
use Rattle.kt_text.specs.declared.scenario.WorkKind.TheVariants as kinds
use Rattle.kt_scene.specs.declared.fault.ReplayFault.{ReplayFault}
use Rattle.kt_scene.specs.declared.fault.ReplayFault.TheVariants as faults
use Rattle.kt_scene.specs.Journal.{journal_of, remark}
use Rattle.kt_scene.specs.Outside.{Reader, Writer}
use Rattle.kt_scene.specs.Report.{IsReportOf}
use Rattle.kt_scene.specs.Stream.{IsAllRead, IsReadFault, WritesAll, WritesFront}
use Rattle.kt_run.specs.declared.fault.RunTextFault.{RunTextFault}
use Rattle.kt_run.specs.declared.fault.RunTextFault.TheVariants.{Text}
use Rattle.kt_run.specs.declared.running.Output.{Output}
use Rattle.kt_run.specs.declared.running.Output.TheVariants as outputs
use Rattle.kt_run.specs.Run.{IsRunOf, IsRunTextFault, IsTrial}
use Rattle.kt_chaos.specs.declared.drawing.Chaos.{Chaos}
use Rattle.kt_chaos.specs.Drawing.{random_faults}
use Rattle.kt_trials.specs.Memory.{told_of}

-- the scenario of these fault lines with these faults behind them
abbrev pub with_faults : SceneModel → List FaultLine → List Fault → ScenarioModel
with_faults scene lines added = record { scene = scene; work = Faults (lines ++ map unspent added) }

-- the text is that of a scenario of fault lines; these faults were drawn for its scene, and the other text is that of
-- the scenario with them
pub record IsLaid (chaos : Chaos) (given : List ℕ) (added : List Fault) (text : List ℕ) : Type 0 where
  pub model : ScenarioModel
  pub lines : List FaultLine
  pub trial : IsTrial given model lines
  pub added_are : added ≡ random_faults chaos model.scene
  pub text_is : text ≡ scenario_text (with_faults model.scene lines added)

-- what was read is such a text
pub record IsDrawn (chaos : Chaos) (before after : Reader) (added : List Fault) (text : List ℕ) : Type 0 where
  pub given : List ℕ
  pub read : IsAllRead before after given
  pub laid : IsLaid chaos given added text

-- each fault as a line that a reader of scenarios ignores
abbrev pub remarks_of : List Fault → List ℕ
remarks_of added = flat_map (λ fault. remark (fault_text fault)) added

-- what a run is told as, of which this is the report
abbrev pub output_text : Output → State → List Step → List ℕ → List ℕ
output_text outputs.Report s steps report = report
output_text outputs.Journal s steps report = journal_of s report steps

-- A store was given, which was like this, and is left as it is then.

-- a run of what the text spells ended in this state, to which these steps led, and the store holds what it holds in
-- that state
pub record IsEnded (start : Start) (was left : StoreValue) (text : List ℕ) (steps : List Step) (state : State) : Type 0
  where
    pub run : IsRunOf start text left.is_honest was.content steps state
    pub kept : IsTrue left.is_honest → left.content ≡ state.content
    pub later : AreLater was.counts left.counts

-- what is written and passed on is this front, and then the report of a run of what the text spells, or its journal,
-- and nothing else
pub record WritesBehind (start : Start) (was left : StoreValue) (output : Output) (text front : List ℕ)
    (old new : Writer) : Type 0 where
  pub steps : List Step
  pub state : State
  pub ended : IsEnded start was left text steps state
  pub report : List ℕ
  pub is_report : IsReportOf left.is_honest state report
  pub written : WritesAll old new (front ++ output_text output state steps report)

-- the writer failed, and a front of that is written
pub record WritesBehindFront (start : Start) (was left : StoreValue) (output : Output) (text front : List ℕ)
    (old new : Writer) : Type 0 where
  pub steps : List Step
  pub state : State
  pub ended : IsEnded start was left text steps state
  pub report : List ℕ
  pub is_report : IsReportOf left.is_honest state report
  pub written : WritesFront old new (front ++ output_text output state steps report)

-- what is written and passed on is each of the faults that were drawn, as a remark, and then the report of the run of
-- the scenario with them, or its journal, and nothing else
pub record WritesChaos (start : Start) (was left : StoreValue) (output : Output) (chaos : Chaos)
    (before after : Reader) (old new : Writer) : Type 0 where
  pub added : List Fault
  pub text : List ℕ
  pub drawn : IsDrawn chaos before after added text
  pub run : WritesBehind start was left output text (remarks_of added) old new

-- the writer failed, and a front of that is written
pub record WritesChaosFront (start : Start) (was left : StoreValue) (output : Output) (chaos : Chaos)
    (before after : Reader) (old new : Writer) : Type 0 where
  pub added : List Fault
  pub text : List ℕ
  pub drawn : IsDrawn chaos before after added text
  pub run : WritesBehindFront start was left output text (remarks_of added) old new

-- ---- faults

-- the run of what this text spells ends with this fault, when what it tells goes to memory
pub record IsFaultOf (start : Start) (was left : StoreValue) (text : List ℕ) (fault : RunTextFault) : Type 0 where
  pub met : RunTextFault
  pub before : Reader
  pub after : Reader
  pub lent : before.bytes ≡ Some text
  pub is : IsRunTextFault start was left before after met
  pub told : fault ≡ told_of met

-- what the run of a text answers: its fault; or that the writer failed, once it had ended
pub data IsBehindFault (start : Start) (was left : StoreValue) (text : List ℕ) : RunTextFault → Type 0 where
  of_run : {fault : RunTextFault} → IsFaultOf start was left text fault → IsBehindFault start was left text fault
  in_writing : (steps : List Step) (state : State) → IsEnded start was left text steps state
      → IsBehindFault start was left text (Text faults.Write)

-- what comes before the run answers: what reading alone answers; the first fault of the text; or want of memory for the
-- faults, or for the text with them
pub data IsUndrawn (before after : Reader) : RunTextFault → Type 0 where
  in_reading : {fault : ReplayFault} → IsReadFault before after fault → IsUndrawn before after (Text fault)
  in_text : {line : ℕ} {cause : SceneError} (given : List ℕ) → IsAllRead before after given
      → Explains kinds.Faults given line cause → IsUndrawn before after (Text (faults.Scene line cause))
  no_room : (given : List ℕ) → IsAllRead before after given → IsUndrawn before after (Text faults.Memory)

-- what a run with random faults answers: that none was drawn, and the store that was given is left; or what the run of
-- the scenario with them answers
pub data IsChaosFault (start : Start) (was left : StoreValue) (chaos : Chaos) (before after : Reader)
    : RunTextFault → Type 0 where
  before_run : {fault : RunTextFault} → IsUndrawn before after fault → left ≡ was
      → IsChaosFault start was left chaos before after fault
  behind : {fault : RunTextFault} (added : List Fault) (text : List ℕ) → IsDrawn chaos before after added text
      → IsBehindFault start was left text fault → IsChaosFault start was left chaos before after fault
