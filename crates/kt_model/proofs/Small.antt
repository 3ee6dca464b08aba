-- Runs of a world and what is seen of them, for the worked rows.
-- Cited by ResumedRows, Rows.
use Rattle.std.specs.Prelude.{ℕ, ◌+◌, List, [], ◌∷◌, length, map, Result, Ok, Err, pos}
use Rattle.kt_tuple.specs.declared.node.NodeId.{NodeId}
use Rattle.kt_tuple.specs.declared.value.Value.TheVariants as values
use Rattle.kt_tuple.specs.declared.tuple.Tuple.{Tuple}
use Rattle.kt_script.specs.declared.command.Command.{Command}
use Rattle.kt_script.specs.declared.command.Command.TheVariants as commands
use Rattle.kt_script.specs.declared.command.Operation.TheVariants as operations
use Rattle.kt_script.specs.declared.command.Actual.TheVariants as actuals
use Rattle.kt_history.specs.Log.{log}
use Rattle.kt_store.specs.Content.{permanent_header, row_of}
use Rattle.kt_state.specs.declared.node.Mode.{Mode}
use Rattle.kt_state.specs.Node.{Body, IsWorker, IsShard, Node, Down, Alive, mode_of}
use Rattle.kt_state.specs.Stored.{acts_in}
use Rattle.kt_scenario.specs.declared.step.Step.{Step}
use Rattle.kt_model.specs.declared.error.StepError.{StepError}
use Rattle.kt_model.specs.State.{State, view}
use Rattle.kt_model.specs.Effect.{step_result}

-- the world after the steps, or the number of the first that is refused, and why
pub data Outcome : Type 0 where
  Made : State → Outcome
  Refused : ℕ → StepError → Outcome

abbrev pub step_on : ℕ → (State → Outcome) → Result State StepError → Outcome
step_on k goes_on (Err refusal) = Refused (k + 1) refusal
step_on k goes_on (Ok new) = goes_on new

unfoldable pub run : ℕ → State → List Step → Outcome
run k s [] = Made s
run k s (step ∷ later) = step_on k (λ x. run (k + 1) x later) (step_result s step)

-- ---- what is compared

abbrev pub bag_in : Body → List Tuple
bag_in (IsWorker x) = []
bag_in (IsShard y) = y.bag

abbrev pub bag_of : Node → List Tuple
bag_of Down = []
bag_of (Alive n) = bag_in n.body

pub record Seen : Type 0 where
  pub mode : Mode
  pub log : List ℕ
  pub incarnation : ℕ
  pub permanent : ℕ
  pub tuples : ℕ

abbrev pub seen : State → NodeId → Seen
seen s p = record {
  mode = mode_of (view s p).node;
  log = log s.history p;
  incarnation = (row_of s.content p).incarnation;
  permanent = acts_in (permanent_header s.content p);
  tuples = length (bag_of (view s p).node);
}

pub data Report : Type 0 where
  Says : List Seen → Report
  Stops : ℕ → StepError → Report

abbrev pub report : List NodeId → Outcome → Report
report nodes (Made s) = Says (map (seen s) nodes)
report nodes (Refused k refusal) = Stops k refusal

-- out (1)
abbrev pub put_one : List Command
put_one = commands.Ask (operations.Out (actuals.Literal (values.Int (pos 1)) ∷ [])) ∷ []
