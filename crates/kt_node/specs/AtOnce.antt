-- What is said at once, with no plan made of it: the plan that it comes to.
-- Cited by at_once.rt; other crates.
use Rattle.std.specs.Prelude.{ℕ, [], ◌∷◌, None, Some}
use Rattle.kt_tuple.specs.declared.node.NodeId.{NodeId}
use Rattle.kt_tuple.specs.declared.op.Op.{Op}
use Rattle.kt_link.specs.declared.label.Label.{Label}
use Rattle.kt_history.specs.declared.note.What.TheVariants as whats
use Rattle.kt_history.specs.declared.note.Note.{Note}
use Rattle.kt_history.specs.declared.note.Note.TheVariants as notes
use Rattle.kt_node.specs.declared.at_once.Again.{Again}
use Rattle.kt_node.specs.declared.at_once.Said.{Said}
use Rattle.kt_state.specs.declared.change.Change.TheVariants as changes
use Rattle.kt_state.specs.declared.message.Talk.TheVariants as talks
use Rattle.kt_state.specs.declared.message.Message.{Message}
use Rattle.kt_state.specs.declared.message.Message.TheVariants as messages
use Rattle.kt_state.specs.declared.plan.Plan.{Plan}
use Rattle.kt_state.specs.Node.{node_number}
use Rattle.kt_state.specs.Updating.{no_update}

-- the node says one thing, and this is noted; all else of it stays
abbrev pub saying : NodeId → Message → Note → Plan
saying to message note = record {
  change = changes.Update record no_update { said = Some to };
  send = (to, message) ∷ [];
  note = Some note;
  write = None;
}

-- a request that is asked once more, with its number and its operation, and what is noted of that
abbrev pub repeat_message : ℕ → Op → Label → ℕ → Message
repeat_message number op label by = messages.App record {
  talk = talks.Request record { number = number; op = op };
  label = label;
  by = by;
}

abbrev pub repeat_note : NodeId → ℕ → Op → Note
repeat_note p number op = notes.Act record {
  node = p;
  by = 0;
  worker = node_number p;
  number = number;
  op = op;
  what = whats.Repeat;
}

-- the worker p asks once more
abbrev pub again_plan : NodeId → Again → Plan
again_plan p r = saying r.to (repeat_message r.number r.op.now r.label r.by) (repeat_note p r.number r.op.now)

-- ---- the same, of what has operations of its own

abbrev pub said_message : Said → Message
said_message s = repeat_message s.number s.asked s.label s.by

abbrev pub said_note : NodeId → Said → Note
said_note p s = repeat_note p s.number s.noted

abbrev pub said_plan : NodeId → Said → Plan
said_plan p s = saying s.to (said_message s) (said_note p s)
