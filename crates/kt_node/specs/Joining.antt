-- How a node begins to vote in an instance: whom it asks, what is stored of it, and when it has voted at once.
-- Cited by joining.rt, specs/Arrivals, specs/Deciding, specs/Saving, `joining::cohort`; other crates.
use Rattle.std.specs.Prelude.{ℕ, Bool, not, List, ◌++◌, filter, Option, None, Some}
use Rattle.kt_tuple.specs.declared.node.NodeId.{NodeId}
use Rattle.kt_ckpt.specs.declared.ckpt.Ckpt.{Ckpt}
use Rattle.kt_ckpt.specs.declared.header.CkptHeader.{CkptHeader}
use Rattle.kt_vote.specs.declared.asker.Asker.{Asker}
use Rattle.kt_vote.specs.Poll.{Poll, asking_poll}
use Rattle.kt_state.specs.declared.message.Ask.{Ask}
use Rattle.kt_state.specs.declared.live.Phase.TheVariants as phases
use Rattle.kt_state.specs.declared.change.KeptChange.TheVariants as keeps
use Rattle.kt_state.specs.declared.change.Change.TheVariants as changes
use Rattle.kt_state.specs.declared.plan.Plan.{Plan}
use Rattle.kt_state.specs.declared.plan.Write.{Write}
use Rattle.kt_state.specs.declared.plan.Write.TheVariants as writes
use Rattle.kt_state.specs.Labels.{up_to, label_at}
use Rattle.kt_state.specs.Node.{Role, Live, node_number, neighbours}
use Rattle.kt_node.specs.View.{View}
use Rattle.kt_state.specs.Stored.{sent_in, received_in}
use Rattle.kt_state.specs.State.{checkpoint_of}
use Rattle.kt_state.specs.Updating.{no_update}
use Rattle.kt_state.specs.Voting.{casting, poll_after, votes}
use Rattle.kt_state.specs.Asking.{check_asks, roll_asks}

-- who asks
abbrev pub asker_of : NodeId → Ask → Asker
asker_of from ask = record { node = from; incarnation = ask.incarnation }

-- ---- a check

-- x is asked where something of it was heard that the permanent checkpoint has not received
abbrev pub is_in_cohort : Option CkptHeader → Live → NodeId → Bool
is_in_cohort permanent n x =
    not (up_to (label_at n.received (node_number x)) (received_in permanent (node_number x)))

abbrev pub cohort : Role → Option CkptHeader → Live → List NodeId
cohort role permanent n = filter (is_in_cohort permanent n) (neighbours role)

-- the node is held with this ballot, its tentative checkpoint is stored, its cohort is asked; a participant whose
-- cohort is empty votes at once
abbrev pub held_plan : Live → Poll → Write → Plan
held_plan n b write = record {
  change = changes.Update record no_update { phase = Some (phases.Held (poll_after b (casting b))) };
  send = check_asks b.instance n b.asked ++ votes (casting b);
  note = None;
  write = Some write;
}

-- the checkpoint of this moment
abbrev pub checkpoint_now : View → Live → Ckpt
checkpoint_now v n = checkpoint_of v.role n v.line_len v.acts

-- the node begins a check of its own, which has this number
abbrev pub begin_check_plan : View → Live → ℕ → Option CkptHeader → Plan
begin_check_plan v n instance permanent =
    held_plan n (asking_poll instance n.incarnation None (cohort v.role permanent n))
    (writes.BeginCheck (checkpoint_now v n))

-- the node takes part in the check of the ask
abbrev pub join_check_plan : View → Live → NodeId → Ask → Option CkptHeader → Plan
join_check_plan v n from ask permanent =
    held_plan n (asking_poll ask.instance n.incarnation (Some (asker_of from ask)) (cohort v.role permanent n))
    (writes.PutTentative ask.instance (checkpoint_now v n))

-- ---- a rollback

-- the ballot of a participant, who asks all its neighbours
abbrev pub roller : Role → Live → NodeId → Ask → Poll
roller role n from ask = asking_poll ask.instance n.incarnation (Some (asker_of from ask)) (neighbours role)

-- the node takes part in the rollback of the ask; what it keeps from the asker above the label is dropped
abbrev pub rolling_plan : Live → NodeId → Ask → Option CkptHeader → Poll → Plan
rolling_plan n from ask permanent b = record {
  change = changes.Update record no_update {
    kept = keeps.Sieve from ask.label;
    phase = Some (phases.Rolling (poll_after b (casting b)));
  };
  send = roll_asks b.instance n.incarnation (sent_in permanent) b.asked ++ votes (casting b);
  note = None;
  write = None;
}

abbrev pub join_rollback_plan : View → Live → NodeId → Ask → Option CkptHeader → Plan
join_rollback_plan v n from ask permanent = rolling_plan n from ask permanent (roller v.role n from ask)
