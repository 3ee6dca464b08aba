-- The acts of a node's log, as its checkpoint holds them: what each act heard is named by node and place, so that the
-- name holds after the program has stopped.
-- Cited by Gatherings, NotedLogs, TakenLogs, past.rt, specs/auxiliary/Gathered, `Past::acts`, `Past::are_fit`,
--   `past::acts_behind`, `past::are_fit_behind`; other crates.
use Rattle.std.specs.Prelude.{ℕ, Bool, true, if◌then◌else◌, List, map, Option, None, Some}
use Rattle.std.specs.List.{list_all}
use Rattle.kt_tuple.specs.declared.node.NodeId.{NodeId}
use Rattle.kt_history.specs.declared.note.Act.{Act}
use Rattle.kt_history.specs.declared.note.Note.{Note}
use Rattle.kt_history.specs.Log.{note_at}
use Rattle.kt_history.specs.Place.{place}
use Rattle.kt_history.specs.Closed.{act_of, acts_in_log}
use Rattle.kt_ckpt.specs.declared.acts.LogAct.{LogAct}
use Rattle.kt_ckpt.specs.Acts.{is_act_of}

-- the node of an act that was found, with the act's place
abbrev pub node_placed : Option Act → Option ℕ → Option (NodeId × ℕ)
node_placed (Some a) (Some k) = Some (a.node, k)
node_placed _ _ = None

-- the act of this number by its node and place; none where the number names no act
abbrev pub placed : List Note → ℕ → Option (NodeId × ℕ)
placed h n = node_placed (act_of (note_at h n)) (place h n)

abbrev pub log_act : List Note → Act → LogAct
log_act h a = record { by = placed h a.by; worker = a.worker; number = a.number; op = a.op; what = a.what }

abbrev pub log_acts : List Note → NodeId → List LogAct
log_acts h p = map (log_act h) (acts_in_log h p)

-- these acts, where each may stand in the log of p
abbrev pub fitting : NodeId → List LogAct → Option (List LogAct)
fitting p acts = if list_all (is_act_of p) acts then Some acts else None
