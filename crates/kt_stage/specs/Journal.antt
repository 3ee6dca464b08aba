-- The journal of a stage: all steps that were made, each at its place; and what its seats keep of them.
-- and
--   2 more; kt_run.
-- Cited by Ended, Halts, Making, Seats, Settled, Unmatched, closing.rt, journal.rt, locked_journal.rt, running.rt,
--   seat.rt, specs/Acting, specs/Closing, specs/Glancing, specs/Running, specs/Settling, specs/auxiliary/Halting,
--   specs/auxiliary/Midway, stage.rt, `Journal::make`, `RunState::look`, `Stage::close`, `Stage::glance`,
--   `closing::fits` and 2 more; other crates.
use Rattle.std.specs.Prelude.{◌≡◌, ℕ, ◌+◌, if◌then◌else◌, List, [], ◌∷◌, ◌++◌}
use Rattle.std.specs.Prelude.{Result, Ok, Err, IsTrue}
use Rattle.kt_tuple.specs.declared.node.NodeId.{NodeId}
use Rattle.kt_tuple.specs.Node.{node_eq}
use Rattle.kt_scenario.specs.declared.step.Step.{Step}
use Rattle.kt_model.specs.declared.error.StepError.{StepError}
use Rattle.kt_model.specs.Effect.{step_result}
use Rattle.kt_model.specs.State.{State}
use Rattle.kt_scenario.specs.Step.{owner}
use Rattle.kt_core.specs.World.{WorldModel}
use Rattle.kt_stage.specs.declared.seat.Receipt.{Receipt}

-- the abstract state of a journal
pub record Journal : Type 0 where
  pub world : WorldModel
  pub steps : List Step

-- the step is made, if what came before it was
abbrev pub then_made : Result State StepError → Step → Result State StepError
then_made (Ok s) step = step_result s step
then_made (Err refusal) step = Err refusal

-- the state that these steps lead to, each of them made
unfoldable pub made_from : Result State StepError → List Step → Result State StepError
made_from so_far [] = so_far
made_from so_far (step ∷ later) = made_from (then_made so_far step) later

abbrev pub all_made : State → List Step → Result State StepError
all_made s steps = made_from (Ok s) steps

-- while the store is honest, as it was then too, the steps lead from the one world to the other, each of them made
abbrev pub Replays : WorldModel → WorldModel → List Step → Type 0
Replays opening world steps =
    IsTrue world.is_honest → IsTrue opening.is_honest × (all_made opening.state steps ≡ Ok world.state)

-- ---- what the seats keep

abbrev pub receipt : ℕ → Step → Receipt
receipt number step = record { number = number; step = step }

-- what a node keeps of a step with this place: a receipt, where the step is its own
abbrev pub kept_of : NodeId → ℕ → Step → List Receipt
kept_of p number step = if node_eq (owner step) p then receipt number step ∷ [] else []

-- what it keeps of these steps, of which the first has this place
unfoldable pub receipts_of : NodeId → ℕ → List Step → List Receipt
receipts_of p number [] = []
receipts_of p number (step ∷ later) = kept_of p number step ++ receipts_of p (number + 1) later

-- the abstract state of a seat: whose it is, and what it keeps
pub record Held : Type 0 where
  pub node : NodeId
  pub receipts : List Receipt

-- the seat of a node that has made no step
abbrev pub empty_seat : NodeId → Held
empty_seat p = record { node = p; receipts = [] }
