-- What workers and shards say to each other: the acts of the underlying computation.
-- Cited by Acting, hearing.rt, short_plan.rt, specs/AppMessages, specs/Steps, steps.rt, talking.rt; other crates.
use Rattle.std.specs.Prelude.{ℕ, if◌then◌else◌, [], ◌∷◌, Option, None, Some}
use Rattle.kt_tuple.specs.declared.node.NodeId.{NodeId}
use Rattle.kt_tuple.specs.declared.node.NodeId.TheVariants as ids
use Rattle.kt_tuple.specs.declared.op.Op.{Op}
use Rattle.kt_tuple.specs.declared.op.Answer.{Answer}
use Rattle.kt_tuple.specs.Signature.{kinds_of_op, shard_of}
use Rattle.kt_link.specs.declared.label.Label.{Label}
use Rattle.kt_history.specs.declared.note.What.{What}
use Rattle.kt_history.specs.declared.note.What.TheVariants as whats
use Rattle.kt_history.specs.declared.note.Act.{Act}
use Rattle.kt_history.specs.declared.note.Note.{Note}
use Rattle.kt_history.specs.declared.note.Note.TheVariants as notes
use Rattle.kt_worker.specs.declared.worker.Worker.{Worker}
use Rattle.kt_worker.specs.WorkerModel.{awaits, heard}
use Rattle.kt_shard.specs.declared.request.Request.{Request}
use Rattle.kt_shard.specs.Arrival.{Arrival, Waits, Again, Ignored, arrival}
use Rattle.kt_shard.specs.Service.{Service}
use Rattle.kt_state.specs.declared.message.Talk.{Talk}
use Rattle.kt_state.specs.declared.message.Talk.TheVariants as talks
use Rattle.kt_state.specs.declared.message.AppMessage.{AppMessage}
use Rattle.kt_state.specs.declared.message.Message.{Message}
use Rattle.kt_state.specs.declared.message.Message.TheVariants as messages
use Rattle.kt_state.specs.declared.change.Change.TheVariants as changes
use Rattle.kt_state.specs.declared.plan.Plan.{Plan}
use Rattle.kt_state.specs.declared.change.BodyChange.{BodyChange}
use Rattle.kt_state.specs.declared.change.BodyChange.TheVariants as bodies
use Rattle.kt_state.specs.declared.change.KeptChange.{KeptChange}
use Rattle.kt_state.specs.Node.{Body, IsWorker, IsShard, Live, node_number, next_label}
use Rattle.kt_node.specs.View.{View}
use Rattle.kt_state.specs.Updating.{no_update}

-- a request of this number and operation
abbrev pub request_for : ℕ × Op → Request
request_for r = record { number = r.0; op = r.1 }

-- the shard that is the home of the operation's tuples, among so many
abbrev pub home : ℕ → Op → NodeId
home shards op = ids.Shard (shard_of shards (kinds_of_op op))

-- an act of p about a request of the worker of this number, and the note of it
abbrev pub act_of : NodeId → ℕ → ℕ → Request → What → Act
act_of p by worker request what =
    record { node = p; by = by; worker = worker; number = request.number; op = request.op; what = what }

abbrev pub note_of : NodeId → ℕ → ℕ → Request → What → Option Note
note_of p by worker request what = Some (notes.Act (act_of p by worker request what))

-- the message in which the next note's act of the live node says this
abbrev pub app_of : View → Live → Talk → Message
app_of v n talk = messages.App record { talk = talk; label = next_label n; by = v.next }

-- ---- the acts of a worker and of a shard that hear nothing

-- the worker asks the home of the operation, and becomes this one
abbrev pub issue_plan : View → Live → ℕ × Op → Worker → Plan
issue_plan v n r asker = record {
  change = changes.Update record no_update { body = bodies.Work asker; said = Some (home v.role.peers r.1) };
  send = (home v.role.peers r.1, app_of v n (talks.Request (request_for r))) ∷ [];
  note = note_of v.role.id 0 (node_number v.role.id) (request_for r) whats.Issue;
  write = None;
}

-- the worker asks once more
abbrev pub repeat_plan : View → Live → ℕ × Op → Plan
repeat_plan v n r = record {
  change = changes.Update record no_update { said = Some (home v.role.peers r.1) };
  send = (home v.role.peers r.1, app_of v n (talks.Request (request_for r))) ∷ [];
  note = note_of v.role.id 0 (node_number v.role.id) (request_for r) whats.Repeat;
  write = None;
}

-- the shard serves the worker of this number; the cause is that of the hearing which put it in waiting
abbrev pub service_plan : View → Live → ℕ → ℕ → Service → Plan
service_plan v n worker by s = record {
  change = changes.Update record no_update { body = bodies.Serve worker s; said = Some (ids.Worker worker) };
  send = (ids.Worker worker, app_of v n (talks.Reply s.request s.answer)) ∷ [];
  note = note_of v.role.id by worker s.request (whats.Served s.answer);
  write = None;
}

-- ---- an underlying message is heard. Where it stood (a link, or the front of what is kept) is told by what becomes
-- of the kept list.

-- a message of this label is heard, this becomes of the body, and nothing is said
abbrev pub hearing : KeptChange → NodeId → Label → BodyChange → Option Note → Plan
hearing kept from label body note = record {
  change = changes.Update record no_update { body = body; kept = kept; heard = Some (from, label) };
  send = [];
  note = note;
  write = None;
}

-- the cached answer is sent again
abbrev pub again_plan : View → Live → KeptChange → NodeId → AppMessage → Request → Answer → Plan
again_plan v n kept from app request answer = record {
  change = changes.Update record no_update { kept = kept; heard = Some (from, app.label); said = Some from };
  send = (from, app_of v n (talks.Reply request answer)) ∷ [];
  note = note_of v.role.id app.by (node_number from) request (whats.Again answer);
  write = None;
}

-- a shard hears a request, and this comes of it
abbrev pub request_plan : View → Live → KeptChange → NodeId → AppMessage → Request → Arrival → Plan
request_plan v n kept from app request Waits =
    hearing kept from app.label (bodies.Wait (node_number from) request)
    (note_of v.role.id app.by (node_number from) request whats.Heard)
request_plan v n kept from app request (Again answer) = again_plan v n kept from app request answer
request_plan v n kept from app request Ignored =
    hearing kept from app.label bodies.Stay (note_of v.role.id app.by (node_number from) request (whats.Ignored None))

-- a worker hears a reply: it accepts the one that it waits for, and ignores all else
abbrev pub reply_plan : View → Worker → KeptChange → NodeId → AppMessage → Request → Answer → Plan
reply_plan v x kept from app request answer =
    if awaits x request.number request.op
    then hearing kept from app.label (bodies.Work (heard v.role.script x answer))
    (note_of v.role.id app.by (node_number v.role.id) request (whats.Accepted answer))
    else hearing kept from app.label bodies.Stay
    (note_of v.role.id app.by (node_number v.role.id) request (whats.Ignored (Some answer)))

-- a worker hears a reply and a shard a request; what comes from its own kind each ignores
abbrev pub talk_plan : View → Live → KeptChange → NodeId → AppMessage → Body → Talk → Plan
talk_plan v n kept from app (IsWorker x) (talks.Reply request answer) = reply_plan v x kept from app request answer
talk_plan v n kept from app (IsWorker x) (talks.Request request) =
    hearing kept from app.label bodies.Stay
    (note_of v.role.id app.by (node_number v.role.id) request (whats.Ignored None))
talk_plan v n kept from app (IsShard y) (talks.Request request) =
    request_plan v n kept from app request (arrival y (node_number from) request)
talk_plan v n kept from app (IsShard y) (talks.Reply request answer) =
    hearing kept from app.label bodies.Stay
    (note_of v.role.id app.by (node_number from) request (whats.Ignored (Some answer)))

-- the live node hears the message
abbrev pub heard_plan : View → Live → KeptChange → NodeId → AppMessage → Plan
heard_plan v n kept from app = talk_plan v n kept from app n.body app.talk
