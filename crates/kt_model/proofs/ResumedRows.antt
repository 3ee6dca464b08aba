-- Worked rows of worlds that are stopped and resumed, computed by the definitions.
-- Cited by no other file of crates/.
use Rattle.std.proofs.Common.{refl}
use Rattle.std.specs.Prelude.{◌≡◌, ℕ, List, [], ◌∷◌, ◌++◌, map, pos, None, Some}
use Rattle.kt_tuple.specs.declared.node.NodeId.{NodeId}
use Rattle.kt_tuple.specs.declared.node.NodeId.TheVariants as ids
use Rattle.kt_tuple.specs.declared.op.Op.{Op}
use Rattle.kt_tuple.specs.declared.op.Op.TheVariants as ops
use Rattle.kt_tuple.specs.declared.op.Answer.TheVariants as answers
use Rattle.kt_tuple.specs.declared.value.Value.TheVariants as values
use Rattle.kt_tuple.specs.declared.value.Kind.TheVariants as kinds
use Rattle.kt_history.specs.declared.note.What.{What}
use Rattle.kt_history.specs.declared.note.What.TheVariants as whats
use Rattle.kt_history.specs.Log.{log, log_from}
use Rattle.kt_state.specs.declared.node.Mode.{Mode}
use Rattle.kt_state.specs.declared.node.Mode.TheVariants as modes
use Rattle.kt_state.specs.Labels.{numbers}
use Rattle.kt_script.specs.declared.command.Command.{Command}
use Rattle.kt_script.specs.declared.command.Command.TheVariants as commands
use Rattle.kt_script.specs.declared.command.Operation.TheVariants as operations
use Rattle.kt_script.specs.declared.command.Actual.TheVariants as actuals
use Rattle.kt_script.specs.declared.command.Slot.TheVariants as slots
use Rattle.kt_shard.specs.Table.{put}
use Rattle.kt_space.specs.Picking.{without_match}
use Rattle.kt_store.specs.Content.{Content, empty_content}
use Rattle.kt_scenario.specs.declared.step.Step.{Step}
use Rattle.kt_scenario.specs.declared.step.Step.TheVariants.{Issue, Repeat, Deliver, Take, Serve, Check, Decide, Abandon, Learn, Fail, Restart}
use Rattle.kt_model.specs.declared.error.StepError.TheVariants as refusals
use Rattle.kt_scenario.specs.Scene.{SceneModel}
use Rattle.kt_model.specs.Effect.{sent}
use Rattle.kt_model.specs.Placing.{next_note, placed}
use Rattle.kt_model.specs.Reached.{opening, opening_rows}
use Rattle.kt_model.specs.Resumed.{down_rows, sum_of, resumed, history_of}
use Rattle.kt_model.specs.State.{State}
use Rattle.kt_model.proofs.Small.{Outcome, Made, Refused, Seen, Report, Says, Stops, run, report, put_one}
use Rattle.kt_model.proofs.Rows.{w, s, both, a, is, votes_of_two}

abbrev one_put : SceneModel
one_put = record { shards = 1; scripts = put_one ∷ [] }

-- what the store holds where the steps lead
abbrev left_by : Outcome → Content
left_by (Made x) = x.content
left_by (Refused k refusal) = empty_content

abbrev stopped_after : List Step → Content
stopped_after steps = left_by (run 0 (opening one_put) steps)

abbrev again : Content → List Step → Report
again c steps = report both (run 0 (resumed one_put c) steps)

-- stopped once the check has its Yes: both tentative checkpoints count
pub resumed_after_yes : again (stopped_after votes_of_two) []
    ≡ Says (is modes.Down (1 ∷ 4 ∷ []) 1 0 0 ∷ is modes.Down (2 ∷ 3 ∷ []) 1 0 0 ∷ [])
unfolding run sent opening_rows numbers put log log_from next_note placed down_rows sum_of
resumed_after_yes = refl

-- both learn it, restart, ask each other, and are up
pub resumed_and_goes_on : again (stopped_after votes_of_two) (Learn w ∷ Learn s ∷ Restart w ∷ Restart s ∷ Deliver w s ∷ Deliver s w
    ∷ Deliver s w ∷ Decide w ∷ Deliver w s ∷ Decide s ∷ [])
    ≡ Says (is modes.Up (1 ∷ 4 ∷ []) 2 2 0 ∷ is modes.Up (2 ∷ 3 ∷ []) 2 2 1 ∷ [])
unfolding run sent opening_rows numbers put log log_from next_note placed down_rows sum_of
resumed_and_goes_on = refl

abbrev asked_yet : List Step
asked_yet = a ++ Check w ∷ Deliver w s ∷ []

-- stopped before the verdict: nothing counts
pub resumed_before : again (stopped_after asked_yet) [] ≡ Says (is modes.Down [] 1 0 0 ∷ is modes.Down [] 1 0 0 ∷ [])
unfolding run sent opening_rows numbers put log log_from next_note placed down_rows sum_of
resumed_before = refl

pub resumed_cannot_learn : again (stopped_after asked_yet) (Learn s ∷ []) ≡ Stops 1 refusals.NotDecided
unfolding run sent opening_rows numbers put log log_from next_note placed down_rows sum_of
resumed_cannot_learn = refl

pub resumed_cannot_restart : again (stopped_after asked_yet) (Restart w ∷ []) ≡ Stops 1 refusals.Unresolved
unfolding run sent opening_rows numbers put log log_from next_note placed down_rows sum_of
resumed_cannot_restart = refl

pub resumed_gives_up : again (stopped_after asked_yet) (Abandon w ∷ Learn w ∷ Learn s ∷ [])
    ≡ Says (is modes.Down [] 1 0 0 ∷ is modes.Down [] 1 0 0 ∷ [])
unfolding run sent opening_rows numbers put log log_from next_note placed down_rows sum_of
resumed_gives_up = refl
