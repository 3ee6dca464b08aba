-- How a world settles: step after step, each the next one of the first node that has one, until no node has any.
-- Cited by Halts, Settled, settling.rt, `settling::settle`; other crates.
use Rattle.std.specs.Prelude.{◌≡◌, ◌<◌, ℕ, ◌+◌, Bool, true, false, List, length, slice_get, take, Option, Some, Ok}
use Rattle.std.specs.Prelude.{IsTrue}
use Rattle.kt_scenario.specs.declared.step.Step.{Step}
use Rattle.kt_model.specs.declared.error.StepError.{StepError}
use Rattle.kt_model.specs.declared.error.StepError.TheVariants as refusals
use Rattle.kt_model.specs.StepPlan.{step_plan}
use Rattle.kt_model.specs.State.{State}
use Rattle.kt_scenario.specs.declared.faults.FaultLine.{FaultLine}
use Rattle.kt_core.specs.Stepping.{Refuses}
use Rattle.kt_core.specs.World.{WorldModel}
use Rattle.kt_stage.specs.Journal.{Replays, all_made}
use Rattle.kt_tuple.specs.Node.{all_nodes}
use Rattle.kt_stage.specs.Policy.{first_some, next_step, spent_by}

-- the next step of the first node, in node order, that has one
abbrev pub next_of_first : State → List FaultLine → Option Step
next_of_first s lines = first_some (next_step s lines) all_nodes

-- each of these steps is the one that was next, where the steps before it had led and with the fault lines that they
-- had left
abbrev pub AreChosen : State → List FaultLine → List Step → Type 0
AreChosen from lines steps =
    (n : ℕ) (s : State) → n < length steps → all_made from (take n steps) ≡ Ok s
    → next_of_first s (spent_by lines (take n steps)) ≡ slice_get steps n

-- these steps, each of them made, led from the one world to the other, and left these fault lines
pub record Settles (old new : WorldModel) (lines left : List FaultLine) (steps : List Step) : Type 0 where
  pub made : Replays old new steps
  pub chosen : IsTrue new.is_honest → AreChosen old.state lines steps
  pub spent : left ≡ spent_by lines steps
  pub count : new.state.made ≡ old.state.made + length steps
  pub scene : new.state.scene ≡ old.state.scene

-- a step that is allowed is refused by nothing else
abbrev pub is_any_steps : StepError → Bool
is_any_steps refusals.StepLimit = true
is_any_steps (refusals.Store refusal) = true
is_any_steps refusals.OutOfMemory = true
is_any_steps refusal = false

-- the step that was chosen next is refused, and for this reason
pub record IsRefusedNext (s : State) (lines : List FaultLine) (refusal : StepError) : Type 0 where
  pub step : Step
  pub next : next_of_first s lines ≡ Some step
  pub why : Refuses refusal (step_plan s step)

-- why a world does not settle: the step that is next is refused; or the store is, already when it is asked what is next
abbrev pub IsHeldUp : State → List FaultLine → StepError → Type 0
IsHeldUp s lines (refusals.Store refusal) = Unit {0}
IsHeldUp s lines refusal = IsTrue (is_any_steps refusal) × IsRefusedNext s lines refusal
