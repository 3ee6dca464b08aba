-- Why a node does not act.
-- Cited by Halts, Making, locked_journal.rt, specs/Glancing, stage.rt, waking.rt, `Journal::make`, `RunState::make`.
use Rattle.std.specs.Prelude.{◌≡◌, ◌≢◌, ◌+◌, ◌++◌, ◌∷◌, [], Bool, length, Result, Ok, Err}
use Rattle.std.specs.Prelude.{IfOk, IfErr, OnOk, OnErr, IsTrue}
use Rattle.kt_tuple.specs.declared.node.NodeId.{NodeId}
use Rattle.kt_scenario.specs.declared.step.Step.{Step}
use Rattle.kt_model.specs.declared.error.StepError.{StepError}
use Rattle.kt_model.specs.declared.error.StepError.TheVariants as refusals
use Rattle.kt_scenario.specs.Step.{owner}
use Rattle.kt_model.specs.State.{State}
use Rattle.kt_model.specs.Effect.{step_result}
use Rattle.kt_model.specs.StepPlan.{step_plan}
use Rattle.kt_core.specs.Stepping.{IsCalledFor, IsCause, Refuses, step_counted}
use Rattle.kt_core.specs.World.{WorldModel, beside}
use Rattle.kt_store.specs.Calls.{Counts}
use Rattle.kt_stage.specs.declared.error.ActError.{ActError}
use Rattle.kt_stage.specs.declared.error.ActError.TheVariants as errors
use Rattle.kt_stage.specs.declared.seat.Receipt.{Receipt}
use Rattle.kt_stage.specs.Journal.{Journal, Replays, receipt}

-- it is said to be another node's only where it is
abbrev pub IsOthers : NodeId → Step → ActError → Type 0
IsOthers p step errors.NotOwner = owner step ≢ p
IsOthers p step (errors.Step refusal) = Unit {0}

-- the step is refused for the reason that is due; want of memory may come before that is known
abbrev pub RefusesStep : {Y : Type 0} → StepError → Result Y StepError → Type 0
RefusesStep refusals.OutOfMemory due = Unit {0}
RefusesStep refusal due = Refuses refusal due

abbrev pub RefusesAct : {Y : Type 0} → ActError → Result Y StepError → Type 0
RefusesAct errors.NotOwner due = Unit {0}
RefusesAct (errors.Step refusal) due = RefusesStep refusal due

-- as the refusal of a step in this state
abbrev pub IsActCause : State → Step → Bool → ActError → Type 0
IsActCause s step is_honest errors.NotOwner = Unit {0}
IsActCause s step is_honest (errors.Step refusal) = IsCause s step is_honest refusal

-- what it leaves of the store's counts: raised by the store's own refusal and by nothing else
abbrev pub act_counted : {T : Type 0} → Result T ActError → Counts → Counts
act_counted {T = T} (Err (errors.Step refusal)) before = step_counted {T = T} (Err refusal) before
act_counted result before = before

-- and only of a step for which the store is called
abbrev pub IsActCalledFor : State → Step → ActError → Type 0
IsActCalledFor s step errors.NotOwner = Unit {0}
IsActCalledFor s step (errors.Step refusal) = IsCalledFor s step refusal

-- ---- what came of a step that a seat of p tried, while the journal went from the one to the other

pub record IsActed (old new : Journal) (p : NodeId) (step : Step) (result : Result Receipt ActError) : Type 0 where
  -- made: it stands behind all steps before it, with the place that it has there
  pub receipt : IfOk result (λ r. r ≡ receipt (length old.steps + 1) step)
  pub journal : OnOk result (new.steps ≡ old.steps ++ step ∷ [])
  pub effect : IsTrue new.world.is_honest → OnOk result (step_result old.world.state step ≡ Ok new.world.state)
  pub honest : IsTrue new.world.is_honest → IsTrue old.world.is_honest
  -- refused: for the reason that is due in the world as it was
  pub not_owner : IfErr result (IsOthers p step)
  pub others : owner step ≢ p → result ≡ Err errors.NotOwner
  pub refusal : IsTrue new.world.is_honest → IfErr result (λ e. RefusesAct e (step_plan old.world.state step))
  pub cause : IfErr result (IsActCause new.world.state step new.world.is_honest)
  pub counts : new.world.counts ≡ act_counted result old.world.counts
  pub called : IsTrue new.world.is_honest → IfErr result (IsActCalledFor old.world.state step)
  -- and then nothing has changed
  pub same_steps : OnErr result (new.steps ≡ old.steps)
  pub same : IsTrue new.world.is_honest → OnErr result (new.world.state ≡ old.world.state)
  pub beside : OnErr result (beside new.world.state ≡ beside old.world.state)

-- so it was, for two journals of the stage that was opened with this: to each its steps lead
pub record IsActedOn (opening : WorldModel) (p : NodeId) (step : Step) (result : Result Receipt ActError) : Type 0 where
  pub old : Journal
  pub new : Journal
  pub replayed : Replays opening old.world old.steps
  pub replays : Replays opening new.world new.steps
  pub acted : IsActed old new p step result
