-- What a verdict makes of a node, whether it learns it from the board or is told.
-- Cited by learning.rt, specs/Arrivals, specs/Deciding, specs/Failing, `learning::verdict_to`; other crates.
use Rattle.std.specs.Prelude.{ℕ, Bool, true, if◌then◌else◌, List, [], map}
use Rattle.std.specs.Prelude.{Option, None, Some, Result, Ok, Err}
use Rattle.kt_tuple.specs.declared.node.NodeId.{NodeId}
use Rattle.kt_history.specs.declared.note.Note.{Note}
use Rattle.kt_history.specs.declared.note.Note.TheVariants as notes
use Rattle.kt_state.specs.declared.message.Message.{Message}
use Rattle.kt_state.specs.declared.message.Message.TheVariants as messages
use Rattle.kt_state.specs.declared.live.Phase.TheVariants as phases
use Rattle.kt_state.specs.declared.change.Change.TheVariants as changes
use Rattle.kt_state.specs.declared.plan.Plan.{Plan}
use Rattle.kt_state.specs.declared.plan.Write.TheVariants as writes
use Rattle.kt_state.specs.declared.refusal.Refusal.{Refusal}
use Rattle.kt_state.specs.declared.refusal.Refusal.TheVariants as refusals
use Rattle.kt_state.specs.Node.{Live}
use Rattle.kt_node.specs.View.{View}
use Rattle.kt_state.specs.Stored.{acts_in, fits}
use Rattle.kt_state.specs.declared.stored.Stored.{Stored}
use Rattle.kt_node.specs.Loading.{load}
use Rattle.kt_state.specs.Loading.{header_in}
use Rattle.kt_state.specs.Plan.{Planned}
use Rattle.kt_state.specs.Updating.{no_update}

-- the verdict goes to each of these
abbrev pub verdict_for : ℕ → Bool → NodeId → NodeId × Message
verdict_for instance agreed x = (x, messages.Verdict instance agreed)

abbrev pub verdict_to : ℕ → Bool → List NodeId → List (NodeId × Message)
verdict_to instance agreed asked = map (verdict_for instance agreed) asked

-- the node remembers its first so many acts alone
abbrev pub cut_of : NodeId → ℕ → Option Note
cut_of p keep = Some (notes.Cut p keep)

-- ---- a held node, or one that rolls as a participant; `send` is what it passes on

-- Yes: the tentative checkpoint is permanent, and nothing was sent since
abbrev pub promote_plan : List (NodeId × Message) → Plan
promote_plan send = record {
  change = changes.Update record no_update { promoted = true; phase = Some phases.Up };
  send = send;
  note = None;
  write = Some writes.Promote;
}

-- No: it is given up
abbrev pub discard_plan : List (NodeId × Message) → Plan
discard_plan send = record {
  change = changes.Update record no_update { phase = Some phases.Up };
  send = send;
  note = None;
  write = Some writes.Discard;
}

abbrev pub held_learns : Bool → List (NodeId × Message) → Plan
held_learns agreed send = if agreed then promote_plan send else discard_plan send

-- Yes: the permanent state is loaded in the next incarnation, and the log is cut to it
abbrev pub restoring_plan : View → Stored → List (NodeId × Message) → Live → Plan
restoring_plan v s send live = record {
  change = changes.Load live;
  send = send;
  note = cut_of v.role.id (acts_in (header_in s));
  write = Some writes.Bump;
}

abbrev pub restored : View → Stored → List (NodeId × Message) → Result Live Refusal → Planned
restored v s send (Ok live) = Ok (restoring_plan v s send live)
restored v s send (Err refusal) = Err refusal

-- No: the state stays
abbrev pub release_plan : List (NodeId × Message) → Plan
release_plan send = record {
  change = changes.Update record no_update { phase = Some phases.Up };
  send = send;
  note = None;
  write = None;
}

abbrev pub rolling_learns : View → Stored → Bool → List (NodeId × Message) → Planned
rolling_learns v s agreed send =
    if agreed then restored v s send (load v s) else Ok (release_plan send)

-- ---- a node that is down with a tentative checkpoint, and stays down

-- Yes: it is permanent
abbrev pub promote_down_plan : Plan
promote_down_plan = record { change = changes.Stay; send = []; note = None; write = Some writes.Promote }

-- No: it is given up, and the log is cut to the permanent one
abbrev pub discard_down_plan : View → Stored → Plan
discard_down_plan v s = record {
  change = changes.Stay;
  send = [];
  note = cut_of v.role.id (acts_in (header_in s));
  write = Some writes.Discard;
}

abbrev pub down_learns : View → Stored → Bool → Planned
down_learns v s agreed =
    if agreed then Ok promote_down_plan
    else if fits v.role v.line_len (header_in s) then Ok (discard_down_plan v s)
    else Err refusals.Damaged
