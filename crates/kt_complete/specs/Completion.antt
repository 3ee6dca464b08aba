-- How a scenario of steps is completed: its own steps are made, and then those that the policy gives.
-- Cited by Answered, Onward, Stops, completing.rt, going.rt, specs/auxiliary/Going,
--   `completing::complete_returning_store`, `completing::completed_or_store`, `going::make_next`; other crates.
use Rattle.std.specs.Prelude.{◌≡◌, ℕ, ◌+◌, Bool, List, [], ◌∷◌, ◌++◌, length, Option, Some, None, Ok, Err, IsTrue}
use Rattle.kt_scenario.specs.declared.step.Step.{Step}
use Rattle.kt_scenario.specs.Scene.{SceneModel}
use Rattle.kt_store.specs.declared.error.StoreError.{StoreError}
use Rattle.kt_store.specs.Content.{Content}
use Rattle.kt_model.specs.declared.error.StepError.{StepError}
use Rattle.kt_model.specs.declared.error.StepError.TheVariants as refusals
use Rattle.kt_model.specs.Effect.{step_result}
use Rattle.kt_model.specs.State.{State}
use Rattle.kt_model.specs.StepPlan.{step_plan}
use Rattle.kt_core.specs.Starting.{Begins}
use Rattle.kt_core.specs.Stepping.{IsCause, Refuses, step_counted}
use Rattle.kt_core.specs.Store.{IsFault, StoreValue}
use Rattle.kt_core.specs.declared.start.Start.{Start}
use Rattle.kt_text.specs.Reading.{scenario_of_steps}
use Rattle.kt_text.specs.Scenario.{IsScenario}
use Rattle.kt_scene.specs.declared.fault.ReplayFault.{ReplayFault}
use Rattle.kt_scene.specs.declared.fault.ReplayFault.TheVariants as faults
use Rattle.kt_scene.specs.Journal.{WritesJournal, WritesJournalFront}
use Rattle.kt_scene.specs.Outside.{Reader, Writer}
use Rattle.kt_scene.specs.Run.{IsWorldFault}
use Rattle.kt_scene.specs.Runs.{RunsTo}
use Rattle.kt_scene.specs.Stream.{IsAllRead, IsReportFault}
use Rattle.kt_stage.specs.Settling.{next_of_first}

-- the step that the policy gives next: that of the first node, in node order, that has one, where no fault is asked for
abbrev pub next_of_all : State → Option Step
next_of_all s = next_of_first s []

-- each of these steps is the one that the policy gives next, and is made, and they lead from the one state to the other
abbrev pub GoesOn : State → List Step → State → Type 0
GoesOn old [] new = new ≡ old
GoesOn old (step ∷ later) new =
    (between : State) × (next_of_all old ≡ Some step) × (step_result old step ≡ Ok between) × GoesOn between later new

-- the steps that are given, and then later ones of the policy, lead to this state from the first one of the scene's
-- world, which began so over a store with this content
pub record BeginsAndGoesOn (start : Start) (c : Content) (scene : SceneModel) (given later : List Step) (s : State)
    : Type 0 where
  pub first : State
  pub begins : Begins start c scene first
  pub reached : State
  pub made : RunsTo first given reached
  pub goes : GoesOn reached later s

-- the text is that of a scenario of steps, these steps begin with all of them, and as long as the store is honest, they
-- led so to this state
pub record GoesOnTo (start : Start) (text : List ℕ) (is_honest : Bool) (c : Content) (steps : List Step) (s : State)
    : Type 0 where
  pub scene : SceneModel
  pub given : List Step
  pub scenario : IsScenario text (scenario_of_steps scene given)
  pub later : List Step
  pub are : steps ≡ given ++ later
  pub goes : IsTrue is_honest → BeginsAndGoesOn start c scene given later s

-- what was read is such a text, and no node has a next step in this state
pub record IsCompleted (start : Start) (before after : Reader) (is_honest : Bool) (c : Content) (steps : List Step)
    (s : State) : Type 0 where
  pub text : List ℕ
  pub read : IsAllRead before after text
  pub goes : GoesOnTo start text is_honest c steps s
  pub over : IsTrue is_honest → next_of_all s ≡ None

-- A store was given, which was like this, and is left as it is then.

-- what is written and passed on is the journal of the steps that completed the scenario that was read, with the report
-- of the state that they led to, and the store holds what it holds in that state, and refused no call. If it is honest
-- then, it was so all the time.
pub record WritesCompleted (start : Start) (was left : StoreValue) (before after : Reader) (old new : Writer) : Type 0
  where
    pub steps : List Step
    pub state : State
    pub completed : IsCompleted start before after left.is_honest was.content steps state
    pub kept : IsTrue left.is_honest → left.content ≡ state.content
    pub counts : left.counts ≡ was.counts
    pub journal : WritesJournal left.is_honest state steps old new

-- the writer failed, and a front of that journal is written
pub record WritesCompletedFront (start : Start) (was left : StoreValue) (before after : Reader) (old new : Writer)
    : Type 0 where
  pub steps : List Step
  pub state : State
  pub completed : IsCompleted start before after left.is_honest was.content steps state
  pub kept : IsTrue left.is_honest → left.content ≡ state.content
  pub counts : left.counts ≡ was.counts
  pub journal : WritesJournalFront left.is_honest state steps old new

-- ---- faults

-- why the policy goes on no further: the store refuses when it is asked what is next, or the step that is next is
-- refused
pub data IsHeldUp (s : State) (is_honest : Bool) : StepError → Type 0 where
  in_asking : {refusal : StoreError} → IsFault is_honest refusal → IsHeldUp s is_honest (refusals.Store refusal)
  in_step : {cause : StepError} (step : Step) → (IsTrue is_honest → next_of_all s ≡ Some step)
      → (IsTrue is_honest → Refuses cause (step_plan s step)) → IsCause s step is_honest cause
      → IsHeldUp s is_honest cause

-- the step with this number, counted from 1, is the first that the policy gave and that was refused, for this cause:
-- what is left is what the steps before it led to, and the store counts its own refusal alone
pub record IsHeldUpAt (start : Start) (was left : StoreValue) (text : List ℕ) (at : ℕ) (cause : StepError) : Type 0
  where
    pub steps : List Step
    pub state : State
    pub goes : GoesOnTo start text left.is_honest was.content steps state
    pub count : at ≡ length steps + 1
    pub why : IsHeldUp state left.is_honest cause
    pub kept : IsTrue left.is_honest → left.content ≡ state.content
    pub counts : left.counts ≡ step_counted {T = Unit {0}} (Err cause) was.counts

-- steps that complete the scenario, if not to its end, were made, and there was no memory to list one more
pub record IsCutShort (start : Start) (was left : StoreValue) (text : List ℕ) : Type 0 where
  pub steps : List Step
  pub state : State
  pub goes : GoesOnTo start text left.is_honest was.content steps state
  pub kept : IsTrue left.is_honest → left.content ≡ state.content
  pub counts : left.counts ≡ was.counts

-- what comes behind the scenario's own steps answers
abbrev pub IsGoingFault : Start → (was left : StoreValue) → List ℕ → ReplayFault → Type 0
IsGoingFault start was left text (faults.Scene line cause) = ⊥
IsGoingFault start was left text (faults.Step at cause) = IsHeldUpAt start was left text at cause
IsGoingFault start was left text (faults.Open cause) = ⊥
IsGoingFault start was left text (faults.Resume cause) = ⊥
IsGoingFault start was left text (faults.Report cause) = ⊥
IsGoingFault start was left text faults.Memory = IsCutShort start was left text
IsGoingFault start was left text faults.Read = ⊥
IsGoingFault start was left text faults.Write = ⊥

-- what comes before the journal answers: what a replay of what was read answers before its report; or, once the
-- scenario's own steps were made, why those of the policy were not
pub data IsUnwritten (start : Start) (was left : StoreValue) (before after : Reader) (fault : ReplayFault) : Type 0
  where
    in_replay : IsWorldFault start was left before after fault → IsUnwritten start was left before after fault
    in_going : (text : List ℕ) → IsAllRead before after text → IsGoingFault start was left text fault
        → IsUnwritten start was left before after fault

-- the scenario was completed, and what a report alone answers came then
pub record IsFaultInJournal (start : Start) (was left : StoreValue) (before after : Reader) (fault : ReplayFault)
    : Type 0 where
  pub steps : List Step
  pub state : State
  pub completed : IsCompleted start before after left.is_honest was.content steps state
  pub kept : IsTrue left.is_honest → left.content ≡ state.content
  pub is : IsReportFault was.counts left.counts left.is_honest fault

-- what a completion answers before it writes; or, once the scenario was completed, a refusal of the store, want of
-- memory or a failure of the writer
pub data IsCompletionFault (start : Start) (was left : StoreValue) (before after : Reader) (fault : ReplayFault)
    : Type 0 where
  before_journal : IsUnwritten start was left before after fault → IsCompletionFault start was left before after fault
  in_journal : IsFaultInJournal start was left before after fault → IsCompletionFault start was left before after fault
