-- The table of arrivals: what a control message makes of the node that it comes to. The rules of each message are
-- tried from the top; a node that is down drops everything.
-- Cited by arrivals.rt, reaction.rt; other crates.
use Rattle.std.specs.Prelude.{ℕ, ◌==◌, Bool, true, false, ◌&&◌, if◌then◌else◌, Option, None, Some, Ok, Err}
use Rattle.kt_tuple.specs.declared.node.NodeId.{NodeId}
use Rattle.kt_ckpt.specs.declared.header.CkptHeader.{CkptHeader}
use Rattle.kt_store.specs.declared.rows.Verdict.{Verdict}
use Rattle.kt_vote.specs.declared.asker.Asker.{Asker}
use Rattle.kt_vote.specs.declared.vote.Vote.{Vote}
use Rattle.kt_vote.specs.Poll.{Poll, counts, counted}
use Rattle.kt_state.specs.declared.message.Ask.{Ask}
use Rattle.kt_state.specs.declared.live.Phase.{Phase}
use Rattle.kt_state.specs.declared.live.Phase.TheVariants as phases
use Rattle.kt_state.specs.declared.change.KeptChange.TheVariants as keeps
use Rattle.kt_state.specs.declared.change.Change.TheVariants as changes
use Rattle.kt_state.specs.declared.plan.Plan.{Plan}
use Rattle.kt_node.specs.declared.reaction.Reaction.{Reaction}
use Rattle.kt_node.specs.declared.reaction.Reaction.TheVariants as reactions
use Rattle.kt_state.specs.declared.refusal.Refusal.TheVariants as refusals
use Rattle.kt_state.specs.Labels.{up_to, label_at, first_at, reaches}
use Rattle.kt_state.specs.Node.{Live, Node, Down, Alive, node_number}
use Rattle.kt_node.specs.View.{View}
use Rattle.kt_state.specs.Stored.{fits, acts_fit, is_undecided, sent_in}
use Rattle.kt_state.specs.Plan.{Planned, empty_plan}
use Rattle.kt_state.specs.Updating.{no_update, updating_to}
use Rattle.kt_state.specs.Voting.{casting, poll_after, vote_for, votes}
use Rattle.kt_node.specs.Joining.{asker_of, join_check_plan, join_rollback_plan}
use Rattle.kt_state.specs.declared.stored.Stored.{Stored}
use Rattle.kt_node.specs.Learning.{held_learns, rolling_learns, verdict_to}

-- ---- an ask

-- the ballot is of this instance
abbrev pub is_in : Poll → ℕ → Bool
is_in b instance = b.instance == instance

-- ---- an ask to take a checkpoint: the verdict is what the board has of its instance, and the node may have a
-- permanent and a tentative checkpoint

-- up: joins where the label is that of a message sent since the permanent checkpoint
abbrev pub check_when_up : Live → NodeId → Ask → Reaction
check_when_up n from ask =
    if reaches (first_at n.first (node_number from)) ask.label && up_to ask.label (label_at n.sent (node_number from))
    then reactions.Joins else reactions.Says false

-- held: yes where it is this check, and the tentative checkpoint has sent what the asker received
abbrev pub check_when_held : Poll → NodeId → Ask → Option CkptHeader → Reaction
check_when_held b from ask tentative =
    reactions.Says (is_in b ask.instance && up_to ask.label (sent_in tentative (node_number from)))

abbrev pub check_in : Live → NodeId → Ask → Option CkptHeader → Phase → Reaction
check_in n from ask tentative phases.Up = check_when_up n from ask
check_in n from ask tentative (phases.Held b) = check_when_held b from ask tentative
check_in n from ask tentative (phases.Rolling b) = reactions.Says false

-- yes where the permanent checkpoint has sent what the asker received
abbrev pub check_when_open : Live → NodeId → Ask → Option CkptHeader → Option CkptHeader → Reaction
check_when_open n from ask permanent tentative =
    if up_to ask.label (sent_in permanent (node_number from)) then reactions.Says true
    else check_in n from ask tentative n.phase

-- no where the check is not open on the board
abbrev pub check_reaction : Live → NodeId → Ask → Option Verdict → Option CkptHeader → Option CkptHeader → Reaction
check_reaction n from ask verdict permanent tentative =
    if is_undecided verdict then check_when_open n from ask permanent tentative else reactions.Says false

-- a vote at once changes nothing of the node
abbrev pub answer_plan : NodeId → Ask → Bool → Plan
answer_plan from ask agreed = record {
  change = changes.Update no_update;
  send = votes (Some (vote_for ask.instance (asker_of from ask) agreed));
  note = None;
  write = None;
}

abbrev pub check_plan : View → Live → NodeId → Ask → Option CkptHeader → Reaction → Planned
check_plan v n from ask permanent (reactions.Says agreed) = Ok (answer_plan from ask agreed)
check_plan v n from ask permanent reactions.Joins =
    if acts_fit v.role v.acts then Ok (join_check_plan v n from ask permanent) else Err refusals.Damaged

abbrev pub check_fitting : View → NodeId → Ask → Option Verdict → Option CkptHeader → Option CkptHeader → Live → Planned
check_fitting v from ask verdict permanent tentative n =
    if fits v.role v.line_len permanent && fits v.role v.line_len tentative
    then check_plan v n from ask permanent (check_reaction n from ask verdict permanent tentative)
    else Err refusals.Damaged

-- what a live node makes of what comes to it
abbrev pub unless_down : Node → (Live → Planned) → Planned
unless_down Down plan = Ok empty_plan
unless_down (Alive n) plan = plan n

abbrev pub hear_check : View → NodeId → Ask → Option Verdict → Option CkptHeader → Option CkptHeader → Planned
hear_check v from ask verdict permanent tentative =
    unless_down v.node (check_fitting v from ask verdict permanent tentative)

-- ---- an ask to roll back

abbrev pub rollback_in : Ask → Phase → Reaction
rollback_in ask phases.Up = reactions.Joins
rollback_in ask (phases.Held b) = reactions.Says false
rollback_in ask (phases.Rolling b) = reactions.Says (is_in b ask.instance)

-- yes where nothing was heard above the label
abbrev pub rollback_when_open : Live → NodeId → Ask → Reaction
rollback_when_open n from ask =
    if up_to (label_at n.received (node_number from)) ask.label then reactions.Says true else rollback_in ask n.phase

-- no where the rollback is not open on the board
abbrev pub rollback_reaction : Live → NodeId → Ask → Option Verdict → Reaction
rollback_reaction n from ask verdict =
    if is_undecided verdict then rollback_when_open n from ask else reactions.Says false

-- whatever is answered, what is kept from the asker above the label is dropped
abbrev pub sieved_answer_plan : NodeId → Ask → Bool → Plan
sieved_answer_plan from ask agreed = record {
  change = changes.Update record no_update { kept = keeps.Sieve from ask.label };
  send = votes (Some (vote_for ask.instance (asker_of from ask) agreed));
  note = None;
  write = None;
}

abbrev pub rollback_plan : View → Live → NodeId → Ask → Option CkptHeader → Reaction → Planned
rollback_plan v n from ask permanent (reactions.Says agreed) = Ok (sieved_answer_plan from ask agreed)
rollback_plan v n from ask permanent reactions.Joins =
    if fits v.role v.line_len permanent then Ok (join_rollback_plan v n from ask permanent) else Err refusals.Damaged

abbrev pub hear_rollback : View → NodeId → Ask → Option Verdict → Option CkptHeader → Planned
hear_rollback v from ask verdict permanent =
    unless_down v.node (λ n. rollback_plan v n from ask permanent (rollback_reaction n from ask verdict))

-- ---- a vote

-- the ballot behind the vote that its node has to cast now, if it has to, and that vote
abbrev pub behind_own : Poll → Poll × Option (NodeId × Vote)
behind_own b = (poll_after b (casting b), casting b)

-- the same of a ballot that counts this vote. One in another instance, on an ask of another incarnation, or of a node
-- that is not awaited is not counted.
abbrev pub counted_if : Poll → NodeId → Vote → Option (Poll × Option (NodeId × Vote))
counted_if b from vote = if counts b from vote then Some (behind_own (counted b from vote.yes)) else None

-- the node does this from now on, and casts this vote
abbrev pub voting_plan : Phase → Option (NodeId × Vote) → Plan
voting_plan phase own = record { change = updating_to phase; send = votes own; note = None; write = None }

-- what is not counted is ignored
abbrev pub vote_plan : (Poll → Phase) → Option (Poll × Option (NodeId × Vote)) → Plan
vote_plan phase None = empty_plan
vote_plan phase (Some x) = voting_plan (phase x.0) x.1

abbrev pub vote_in : NodeId → Vote → Phase → Plan
vote_in from vote phases.Up = empty_plan
vote_in from vote (phases.Held b) = vote_plan phases.Held (counted_if b from vote)
vote_in from vote (phases.Rolling b) = vote_plan phases.Rolling (counted_if b from vote)

abbrev pub hear_vote : View → NodeId → Vote → Planned
hear_vote v from vote = unless_down v.node (λ n. Ok (vote_in from vote n.phase))

-- ---- a verdict

-- a held node, the initiator too, learns it where it is that of its ballot, and passes it on to all that it asked
abbrev pub verdict_when_held : Poll → ℕ → Bool → Plan
verdict_when_held b instance agreed =
    if is_in b instance then held_learns agreed (verdict_to instance agreed b.asked) else empty_plan

abbrev pub verdict_when_rolling : View → Stored → Poll → ℕ → Bool → Planned
verdict_when_rolling v s b instance agreed =
    if is_in b instance then rolling_learns v s agreed (verdict_to instance agreed b.asked) else Ok empty_plan

-- the initiator of a rollback ignores it, a participant learns it
abbrev pub verdict_by_parent : View → Stored → Poll → ℕ → Bool → Option Asker → Planned
verdict_by_parent v s b instance agreed None = Ok empty_plan
verdict_by_parent v s b instance agreed (Some parent) = verdict_when_rolling v s b instance agreed

abbrev pub verdict_in : View → Stored → ℕ → Bool → Phase → Planned
verdict_in v s instance agreed phases.Up = Ok empty_plan
verdict_in v s instance agreed (phases.Held b) = Ok (verdict_when_held b instance agreed)
verdict_in v s instance agreed (phases.Rolling b) = verdict_by_parent v s b instance agreed b.parent

abbrev pub hear_verdict : View → Stored → ℕ → Bool → Planned
hear_verdict v s instance agreed = unless_down v.node (λ n. verdict_in v s instance agreed n.phase)
