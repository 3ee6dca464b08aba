-- What a replay of a scenario answers, and what it leaves read and written.
-- kt_command, kt_run.
-- Cited by Replays, replaying.rt, `replaying::replay_returning_store`, `replaying::report_returning_store`; other
--   crates.
use Rattle.std.specs.Prelude.{◌≡◌, ℕ, Bool, List, IsTrue, Err}
use Rattle.kt_store.specs.Content.{Content}
use Rattle.kt_core.specs.Starting.{Begins, IsErrorOf, IsUnbegun}
use Rattle.kt_core.specs.Store.{StoreValue}
use Rattle.kt_core.specs.Stepping.{step_counted}
use Rattle.kt_core.specs.declared.start.Start.{Start}
use Rattle.kt_core.specs.declared.start.StartError.{StartError}
use Rattle.kt_core.specs.declared.start.StartError.TheVariants as unbegun
use Rattle.kt_model.specs.declared.error.StepError.{StepError}
use Rattle.kt_model.specs.State.{State}
use Rattle.kt_text.specs.declared.scenario.WorkKind.TheVariants as kinds
use Rattle.kt_text.specs.Faults.{Explains}
use Rattle.kt_scene.specs.Runs.{BeginsAndRunsTo, IsRefusedAt}
use Rattle.kt_text.specs.Reading.{ScenarioModel}
use Rattle.kt_text.specs.Work.{kind_of, steps_of}
use Rattle.kt_text.specs.Scenario.{IsScenario}
use Rattle.kt_scene.specs.Report.{IsReportOf, WritesReport, WritesReportFront}
use Rattle.kt_scene.specs.Outside.{Reader, Writer}
use Rattle.kt_scene.specs.Stream.{IsAllRead, IsReadFault, IsReportFault}
use Rattle.kt_scene.specs.declared.fault.ReplayFault.{ReplayFault}
use Rattle.kt_scene.specs.declared.fault.ReplayFault.TheVariants as faults

-- A world begins so (`Start`): it is opened, or resumed.

-- the text is that of a scenario of steps, and as long as the store is honest, the steps led to this state from the
-- first one of the scene's world, which began so over a store with this content
pub record LeadsTo (start : Start) (text : List ℕ) (is_honest : Bool) (c : Content) (s : State) : Type 0 where
  pub model : ScenarioModel
  pub is_kind : kind_of model.work ≡ kinds.Steps
  pub scenario : IsScenario text model
  pub runs : IsTrue is_honest → BeginsAndRunsTo start c model.scene (steps_of model.work) s

-- A store was given, which was like this, and is left as it is then. What is said of a refusal holds of any store, and
-- what is said while the store that is left is honest, of one that was honest all the time.

-- the first refused step of the scenario that the text spells: what is left is what the steps before it led to, and the
-- store counts its own refusal alone
pub record IsFirstRefused (start : Start) (was left : StoreValue) (text : List ℕ) (at : ℕ) (cause : StepError)
    : Type 0 where
  pub model : ScenarioModel
  pub is_kind : kind_of model.work ≡ kinds.Steps
  pub scenario : IsScenario text model
  pub first : State
  pub begins : IsTrue left.is_honest → Begins start was.content model.scene first
  pub refused : IsTrue left.is_honest → IsRefusedAt first (steps_of model.work) at cause left.content
  pub counts : left.counts ≡ step_counted {T = Unit {0}} (Err cause) was.counts

-- the text is that of a scenario of steps, and its world, which was to begin so, did not
pub record IsUnstarted (start : Start) (was left : StoreValue) (text : List ℕ) (cause : StartError) : Type 0 where
  pub model : ScenarioModel
  pub is_kind : kind_of model.work ≡ kinds.Steps
  pub scenario : IsScenario text model
  pub kind : IsErrorOf start cause
  pub refused : IsUnbegun model.scene was left cause

-- what a text answers: its first fault, or want of memory before that, and the store that was given is left; or it is
-- that of a scenario of steps, whose world did not begin or whose first refused step this is
abbrev pub IsTextFault : Start → (was left : StoreValue) → List ℕ → ReplayFault → Type 0
IsTextFault start was left text (faults.Scene line cause) = Explains kinds.Steps text line cause × (left ≡ was)
IsTextFault start was left text (faults.Step at cause) = IsFirstRefused start was left text at cause
IsTextFault start was left text (faults.Open cause) = IsUnstarted start was left text (unbegun.Open cause)
IsTextFault start was left text (faults.Resume cause) = IsUnstarted start was left text (unbegun.Resume cause)
IsTextFault start was left text (faults.Report cause) = ⊥
IsTextFault start was left text faults.Memory = ⊥
IsTextFault start was left text faults.Read = ⊥
IsTextFault start was left text faults.Write = ⊥

-- what was read is the text of a scenario of steps, which led to this state
pub record IsReplayed (start : Start) (before after : Reader) (is_honest : Bool) (c : Content) (s : State)
    : Type 0 where
  pub text : List ℕ
  pub read : IsAllRead before after text
  pub leads : LeadsTo start text is_honest c s

-- what comes before the report answers: what reading alone answers, and the store that was given is left; or what the
-- text that was read answers
pub data IsWorldFault (start : Start) (was left : StoreValue) (before after : Reader) (fault : ReplayFault)
    : Type 0 where
  of_reading : IsReadFault before after fault → left ≡ was → IsWorldFault start was left before after fault
  of_text : (text : List ℕ) → IsAllRead before after text → IsTextFault start was left text fault
      → IsWorldFault start was left before after fault

-- what is written and passed on is the report of the state that the steps of the scenario that was read led to, and
-- nothing else, and the store holds what it holds in that state, and refused no call. If it is honest then, it was so
-- all the time.
pub record WritesReplayed (start : Start) (was left : StoreValue) (before after : Reader) (old new : Writer)
    : Type 0 where
  pub state : State
  pub replayed : IsReplayed start before after left.is_honest was.content state
  pub kept : IsTrue left.is_honest → left.content ≡ state.content
  pub counts : left.counts ≡ was.counts
  pub report : WritesReport left.is_honest state old new

-- the text is that report, of which nothing is written yet
pub record IsReplayedReport (start : Start) (was left : StoreValue) (before after : Reader) (text : List ℕ)
    : Type 0 where
  pub state : State
  pub replayed : IsReplayed start before after left.is_honest was.content state
  pub kept : IsTrue left.is_honest → left.content ≡ state.content
  pub counts : left.counts ≡ was.counts
  pub report : IsReportOf left.is_honest state text

-- the writer failed, and a front of that report is written
pub record WritesReplayedFront (start : Start) (was left : StoreValue) (before after : Reader) (old new : Writer)
    : Type 0 where
  pub state : State
  pub replayed : IsReplayed start before after left.is_honest was.content state
  pub kept : IsTrue left.is_honest → left.content ≡ state.content
  pub counts : left.counts ≡ was.counts
  pub report : WritesReportFront left.is_honest state old new

-- what a replay leaves of the writer where it ends with this fault: a front of the report where the writer failed, and
-- else all as it was
abbrev pub LeavesWriter : Start → (was left : StoreValue) → (before after : Reader) (old new : Writer) → ReplayFault
    → Type 0
LeavesWriter start was left before after old new (faults.Scene line cause) = new ≡ old
LeavesWriter start was left before after old new (faults.Step at cause) = new ≡ old
LeavesWriter start was left before after old new (faults.Open cause) = new ≡ old
LeavesWriter start was left before after old new (faults.Resume cause) = new ≡ old
LeavesWriter start was left before after old new (faults.Report cause) = new ≡ old
LeavesWriter start was left before after old new faults.Memory = new ≡ old
LeavesWriter start was left before after old new faults.Read = new ≡ old
LeavesWriter start was left before after old new faults.Write =
    WritesReplayedFront start was left before after old new

-- the steps were made, and what a report alone answers came then
pub record IsFaultInReport (start : Start) (was left : StoreValue) (before after : Reader) (fault : ReplayFault)
    : Type 0 where
  pub state : State
  pub replayed : IsReplayed start before after left.is_honest was.content state
  pub kept : IsTrue left.is_honest → left.content ≡ state.content
  pub is : IsReportFault was.counts left.counts left.is_honest fault

-- what a replay answers before it writes; or, once the steps were made, a refusal of the store, want of memory or a
-- failure of the writer
pub data IsReplayFault (start : Start) (was left : StoreValue) (before after : Reader) (fault : ReplayFault)
    : Type 0 where
  before_report : IsWorldFault start was left before after fault → IsReplayFault start was left before after fault
  in_report : IsFaultInReport start was left before after fault → IsReplayFault start was left before after fault
