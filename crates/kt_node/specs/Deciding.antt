-- The table of steps, those of checks and rollbacks: what a node may do of itself, and why it may not. Of several
-- refusals the lowest is given.
-- Cited by deciding.rt; other crates.
use Rattle.std.specs.Prelude.{ℕ, Bool, true, false, ◌&&◌, if◌then◌else◌, List, [], Option, None, Some, Ok, Err}
use Rattle.kt_tuple.specs.declared.node.NodeId.{NodeId}
use Rattle.kt_ckpt.specs.declared.header.CkptHeader.{CkptHeader}
use Rattle.kt_store.specs.declared.rows.Verdict.{Verdict}
use Rattle.kt_store.specs.declared.rows.Verdict.TheVariants as verdicts
use Rattle.kt_vote.specs.declared.asker.Asker.{Asker}
use Rattle.kt_vote.specs.Poll.{Poll, outcome_of}
use Rattle.kt_state.specs.declared.live.Phase.{Phase}
use Rattle.kt_state.specs.declared.live.Phase.TheVariants as phases
use Rattle.kt_state.specs.declared.change.Change.{Change}
use Rattle.kt_state.specs.declared.change.Change.TheVariants as changes
use Rattle.kt_state.specs.declared.plan.Plan.{Plan}
use Rattle.kt_state.specs.declared.plan.Write.TheVariants as writes
use Rattle.kt_state.specs.declared.refusal.Refusal.TheVariants as refusals
use Rattle.kt_state.specs.Node.{Live, Node, Down, Alive}
use Rattle.kt_node.specs.View.{View}
use Rattle.kt_state.specs.Stored.{fits, acts_fit, is_undecided}
use Rattle.kt_state.specs.Plan.{Planned}
use Rattle.kt_state.specs.Updating.{no_update, updating_to}
use Rattle.kt_state.specs.Voting.{vote_for, voted, votes}
use Rattle.kt_node.specs.Joining.{begin_check_plan}
use Rattle.kt_state.specs.declared.stored.Stored.{Stored}
use Rattle.kt_node.specs.Learning.{verdict_to, held_learns, rolling_learns, down_learns}

-- ---- check: the node is up; the check has the next number

abbrev pub check_fitting : View → ℕ → Option CkptHeader → Live → Planned
check_fitting v next permanent n =
    if fits v.role v.line_len permanent && acts_fit v.role v.acts then Ok (begin_check_plan v n next permanent)
    else Err refusals.Damaged

abbrev pub check_in : View → ℕ → Option CkptHeader → Live → Phase → Planned
check_in v next permanent n phases.Up = check_fitting v next permanent n
check_in v next permanent n (phases.Held b) = Err refusals.WrongMode
check_in v next permanent n (phases.Rolling b) = Err refusals.WrongMode

abbrev pub check_of : View → ℕ → Option CkptHeader → Node → Planned
check_of v next permanent Down = Err refusals.WrongMode
check_of v next permanent (Alive n) = check_in v next permanent n n.phase

abbrev pub check : View → ℕ → Option CkptHeader → Planned
check v next permanent = check_of v next permanent v.node

-- ---- decide: who began an instance that is open, with nothing awaited or one refused; the verdict is what the board
-- has of the ballot's instance

-- a node in a rollback that has Yes is up; else it stays what it is
abbrev pub decided_change : Phase → Bool → Change
decided_change (phases.Rolling b) true = updating_to phases.Up
decided_change phase agreed = changes.Update no_update

abbrev pub decide_plan : Phase → Poll → Bool → Plan
decide_plan phase b agreed = record {
  change = decided_change phase agreed;
  send = verdict_to b.instance agreed b.asked;
  note = None;
  write = Some (writes.Decide b.instance agreed);
}

abbrev pub decide_if : Phase → Poll → Option Bool → Planned
decide_if phase b None = Err refusals.NotDecided
decide_if phase b (Some agreed) = Ok (decide_plan phase b agreed)

abbrev pub decide_when : Phase → Poll → Option Verdict → Planned
decide_when phase b verdict =
    if is_undecided verdict then decide_if phase b (outcome_of b) else Err refusals.NothingThere

abbrev pub decide_by : Phase → Poll → Option Verdict → Option Asker → Planned
decide_by phase b verdict None = decide_when phase b verdict
decide_by phase b verdict (Some parent) = Err refusals.NothingThere

abbrev pub decide_in : Option Verdict → Phase → Planned
decide_in verdict phases.Up = Err refusals.WrongMode
decide_in verdict (phases.Held b) = decide_by (phases.Held b) b verdict b.parent
decide_in verdict (phases.Rolling b) = decide_by (phases.Rolling b) b verdict b.parent

abbrev pub decide_of : Option Verdict → Node → Planned
decide_of verdict Down = Err refusals.WrongMode
decide_of verdict (Alive n) = decide_in verdict n.phase

abbrev pub decide : View → Option Verdict → Planned
decide v verdict = decide_of verdict v.node

-- ---- abandon: who began an instance writes No while it is open; a participant that has not voted votes no

abbrev pub no_plan : Change → ℕ → List NodeId → Plan
no_plan change instance asked = record {
  change = change;
  send = verdict_to instance false asked;
  note = None;
  write = Some (writes.Decide instance false);
}

abbrev pub abandon_open : Poll → Option Verdict → Planned
abandon_open b verdict =
    if is_undecided verdict then Ok (no_plan (changes.Update no_update) b.instance b.asked) else Err
    refusals.NothingThere

-- the participant has voted, and its vote is no
abbrev pub declined_plan : Phase → ℕ → Asker → Plan
declined_plan phase instance parent = record {
  change = updating_to phase;
  send = votes (Some (vote_for instance parent false));
  note = None;
  write = None;
}

abbrev pub decline : (Poll → Phase) → Poll → Asker → Planned
decline phase b parent =
    if b.voted then Err refusals.NothingThere else Ok (declined_plan (phase (voted b)) b.instance parent)

abbrev pub abandon_by : (Poll → Phase) → Poll → Option Verdict → Option Asker → Planned
abandon_by phase b verdict None = abandon_open b verdict
abandon_by phase b verdict (Some parent) = decline phase b parent

abbrev pub abandon_in : Option Verdict → Phase → Planned
abandon_in verdict phases.Up = Err refusals.WrongMode
abandon_in verdict (phases.Held b) = abandon_by phases.Held b verdict b.parent
abandon_in verdict (phases.Rolling b) = abandon_by phases.Rolling b verdict b.parent

-- a node that is down tells nobody; it writes No for the open instance that it began, if there is one
abbrev pub abandon_down : Option ℕ → Planned
abandon_down None = Err refusals.NothingThere
abandon_down (Some instance) = Ok (no_plan changes.Stay instance [])

abbrev pub abandon_of : Option Verdict → Option ℕ → Node → Planned
abandon_of verdict undecided Down = abandon_down undecided
abandon_of verdict undecided (Alive n) = abandon_in verdict n.phase

abbrev pub abandon : View → Option Verdict → Option ℕ → Planned
abandon v verdict undecided = abandon_of verdict undecided v.node

-- ---- learn: the board has a verdict on the ballot's instance, or, of a node that is down, on that of its tentative
-- checkpoint

-- the verdict that there is
abbrev pub settled : Option Verdict → Option Bool
settled None = None
settled (Some verdicts.Open) = None
settled (Some verdicts.Yes) = Some true
settled (Some verdicts.No) = Some false

abbrev pub learn_held : Option Bool → Planned
learn_held None = Err refusals.NotDecided
learn_held (Some agreed) = Ok (held_learns agreed [])

abbrev pub learn_rolling : View → Stored → Option Bool → Planned
learn_rolling v s None = Err refusals.NotDecided
learn_rolling v s (Some agreed) = rolling_learns v s agreed []

-- who began a rollback learns nothing
abbrev pub learn_by : View → Stored → Option Bool → Option Asker → Planned
learn_by v s agreed None = Err refusals.WrongMode
learn_by v s agreed (Some parent) = learn_rolling v s agreed

abbrev pub learn_in : View → Stored → Option Bool → Phase → Planned
learn_in v s agreed phases.Up = Err refusals.WrongMode
learn_in v s agreed (phases.Held b) = learn_held agreed
learn_in v s agreed (phases.Rolling b) = learn_by v s agreed b.parent

abbrev pub learn_settled : View → Stored → Option Bool → Planned
learn_settled v s None = Err refusals.NotDecided
learn_settled v s (Some agreed) = down_learns v s agreed

abbrev pub learn_down : View → Stored → Bool → Option Bool → Planned
learn_down v s is_tentative agreed =
    if is_tentative then learn_settled v s agreed else Err refusals.NothingThere

abbrev pub learn_of : View → Stored → Bool → Option Bool → Node → Planned
learn_of v s is_tentative agreed Down = learn_down v s is_tentative agreed
learn_of v s is_tentative agreed (Alive n) = learn_in v s agreed n.phase

-- `is_tentative` says whether a tentative checkpoint is stored
abbrev pub learn : View → Stored → Bool → Option Verdict → Planned
learn v s is_tentative verdict = learn_of v s is_tentative (settled verdict) v.node
