-- What a node asks of others: to take a checkpoint, or to roll back.
-- Cited by asking.rt, `asking::check_asks`, `asking::roll_asks`; other crates.
use Rattle.std.specs.Prelude.{ℕ, List, map}
use Rattle.std.specs.Option.{option_copied}
use Rattle.kt_tuple.specs.declared.node.NodeId.{NodeId}
use Rattle.kt_link.specs.declared.label.Label.{Label}
use Rattle.kt_state.specs.declared.message.Message.{Message}
use Rattle.kt_state.specs.declared.message.Message.TheVariants as messages
use Rattle.kt_state.specs.declared.asking.Sent.{Sent}
use Rattle.kt_state.specs.declared.asking.Sent.TheVariants as sents
use Rattle.kt_state.specs.Labels.{label_at}
use Rattle.kt_state.specs.Node.{Live, node_number}
use Rattle.kt_state.specs.Stored.{sent_in}

-- ---- a check

-- x is asked with the last label received from it
abbrev pub check_ask : ℕ → Live → NodeId → NodeId × Message
check_ask instance n x = (
  x,
  messages.CheckAsk record {
    instance = instance;
    label = label_at n.received (node_number x);
    incarnation = n.incarnation;
  },
)

abbrev pub check_asks : ℕ → Live → List NodeId → List (NodeId × Message)
check_asks instance n asked = map (check_ask instance n) asked

-- ---- a rollback

-- each of these is asked with its label: that of the last message sent to it before the permanent checkpoint
abbrev pub roll_ask : ℕ → ℕ → (ℕ → Label) → NodeId → NodeId × Message
roll_ask instance incarnation label x = (
  x,
  messages.RollAsk record { instance = instance; label = label (node_number x); incarnation = incarnation },
)

abbrev pub roll_asks : ℕ → ℕ → (ℕ → Label) → List NodeId → List (NodeId × Message)
roll_asks instance incarnation label asked = map (roll_ask instance incarnation label) asked

-- the last label sent before the permanent checkpoint to the neighbour of this number
abbrev pub sent_view : Sent → ℕ → Label
sent_view (sents.CkptHeader permanent) k = sent_in (option_copied permanent) k
sent_view (sents.Table table) k = label_at table.now k
