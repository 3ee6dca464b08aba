-- What the store says to a node of its checkpoints: nothing stored is the beginning.
-- Cited by specs/Asking, stored.rt; other crates.
use Rattle.std.specs.Prelude.{ℕ, ◌==◌, nat_le, Bool, true, false, ◌&&◌, length, List, Option, None, Some}
use Rattle.std.specs.List.{list_all}
use Rattle.kt_ckpt.specs.declared.acts.LogAct.{LogAct}
use Rattle.kt_ckpt.specs.Acts.{is_act_of}
use Rattle.kt_tuple.specs.Node.{node_eq}
use Rattle.kt_link.specs.declared.label.Label.{Label}
use Rattle.kt_ckpt.specs.declared.header.CkptHeader.{CkptHeader}
use Rattle.kt_store.specs.declared.rows.Verdict.{Verdict}
use Rattle.kt_store.specs.Verdict.{is_open}
use Rattle.kt_state.specs.Labels.{no_label, listed_at}
use Rattle.kt_state.specs.Node.{Role}

-- each act may stand in the log of the node; while the store is honest they always do
abbrev pub acts_fit : Role → List LogAct → Bool
acts_fit role acts = list_all (is_act_of role.id) acts

-- an instance that was begun and has no verdict
abbrev pub is_undecided : Option Verdict → Bool
is_undecided None = false
is_undecided (Some v) = is_open v

-- how many acts the checkpoint holds
abbrev pub acts_in : Option CkptHeader → ℕ
acts_in None = 0
acts_in (Some m) = m.line_len

-- the last label that it has sent to the neighbour of this number, and the last received from it
abbrev pub sent_in : Option CkptHeader → ℕ → Label
sent_in None k = no_label
sent_in (Some m) k = listed_at m.sent k

abbrev pub received_in : Option CkptHeader → ℕ → Label
received_in None k = no_label
received_in (Some m) k = listed_at m.received k

-- its acts and labels fit the node, which remembers so many acts
abbrev pub header_fits : Role → ℕ → CkptHeader → Bool
header_fits role line_len m =
    node_eq m.node role.id && (length m.sent == role.peers) && (length m.received == role.peers)
    && nat_le m.line_len line_len

abbrev pub fits : Role → ℕ → Option CkptHeader → Bool
fits role line_len None = true
fits role line_len (Some m) = header_fits role line_len m
