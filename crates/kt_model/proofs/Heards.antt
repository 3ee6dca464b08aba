-- The ways in which a live node hears an underlying message: what is known there, and the plan.
-- Cited by AllInstanceRows, FirstCut, Fit, GoodActs, HeldActs, Newer, StaysBacked; other crates.
use Rattle.std.proofs.Common.{◌≡◌, ◌<◌, ◌≤◌, Bool, true, false, if◌then◌else◌, Option, Some, None, refl}
use Rattle.std.specs.Prelude.{nat_lt}
use Rattle.std.proofs.lemmas.Bool.{ltb-true, ltb-false}
use Rattle.kt_tuple.specs.declared.node.NodeId.{NodeId}
use Rattle.kt_tuple.specs.declared.op.Answer.{Answer}
use Rattle.kt_history.specs.declared.note.What.TheVariants as whats
use Rattle.kt_worker.specs.declared.worker.Worker.{Worker}
use Rattle.kt_worker.specs.WorkerModel.{awaits, heard}
use Rattle.kt_shard.specs.declared.request.Request.{Request}
use Rattle.kt_shard.specs.Shard.{Shard, session_of}
use Rattle.kt_shard.specs.Session.{newest, cached_answer}
use Rattle.kt_shard.specs.Arrival.{Waits, again_or_ignored}
use Rattle.kt_state.specs.declared.message.Talk.{Talk}
use Rattle.kt_state.specs.declared.message.Talk.TheVariants as talks
use Rattle.kt_state.specs.declared.message.AppMessage.{AppMessage}
use Rattle.kt_state.specs.declared.change.BodyChange.TheVariants as bodies
use Rattle.kt_state.specs.declared.change.KeptChange.{KeptChange}
use Rattle.kt_state.specs.declared.plan.Plan.{Plan}
use Rattle.kt_state.specs.Node.{Body, IsWorker, IsShard, Live, node_number}
use Rattle.kt_node.specs.View.{View}
use Rattle.kt_node.specs.Talking.{note_of, hearing, again_plan, request_plan, talk_plan, heard_plan}

pub data HeardOf (v : View) (n : Live) (kept : KeptChange) (from : NodeId) (app : AppMessage) : Plan → Type 0 where
  misses_request : {x : Worker} {request : Request}
      → n.body ≡ IsWorker x → app.talk ≡ talks.Request request
      → HeardOf v n kept from app (hearing kept from app.label bodies.Stay (note_of v.role.id app.by (node_number v.role.id) request (whats.Ignored None)))
  accepts : {x : Worker} {request : Request} {answer : Answer}
      → n.body ≡ IsWorker x → app.talk ≡ talks.Reply request answer → awaits x request.number request.op ≡ true
      → HeardOf v n kept from app (hearing kept from app.label (bodies.Work (heard v.role.script x answer))
      (note_of v.role.id app.by (node_number v.role.id) request (whats.Accepted answer)))
  ignores_reply : {x : Worker} {request : Request} {answer : Answer}
      → n.body ≡ IsWorker x → app.talk ≡ talks.Reply request answer → awaits x request.number request.op ≡ false
      → HeardOf v n kept from app (hearing kept from app.label bodies.Stay
      (note_of v.role.id app.by (node_number v.role.id) request (whats.Ignored (Some answer))))
  hears : {y : Shard} {request : Request}
      → n.body ≡ IsShard y → app.talk ≡ talks.Request request → newest (session_of y (node_number from)) < request.number
      → HeardOf v n kept from app (hearing kept from app.label (bodies.Wait (node_number from) request)
      (note_of v.role.id app.by (node_number from) request whats.Heard))
  answers_again : {y : Shard} {request : Request} {answer : Answer}
      → n.body ≡ IsShard y → app.talk ≡ talks.Request request → request.number ≤ newest (session_of y (node_number from))
      → cached_answer (session_of y (node_number from)) request ≡ Some answer
      → HeardOf v n kept from app (again_plan v n kept from app request answer)
  ignores_request : {y : Shard} {request : Request}
      → n.body ≡ IsShard y → app.talk ≡ talks.Request request → request.number ≤ newest (session_of y (node_number from))
      → cached_answer (session_of y (node_number from)) request ≡ None
      → HeardOf v n kept from app (hearing kept from app.label bodies.Stay (note_of v.role.id app.by (node_number from) request (whats.Ignored None)))
  misses_reply : {y : Shard} {request : Request} {answer : Answer}
      → n.body ≡ IsShard y → app.talk ≡ talks.Reply request answer
      → HeardOf v n kept from app (hearing kept from app.label bodies.Stay
      (note_of v.role.id app.by (node_number from) request (whats.Ignored (Some answer))))

-- every plan of a hearing is made in one of these ways
pub heard-is : (v : View) (n : Live) (kept : KeptChange) (from : NodeId) (app : AppMessage) → HeardOf v n kept from app (heard_plan v n kept from app)
heard-is v n kept from app = by n.body app.talk refl refl
  where
    Is : Plan → Type 0
    Is = HeardOf v n kept from app

    answers : (x : Worker) (request : Request) (answer : Answer) → n.body ≡ IsWorker x → app.talk ≡ talks.Reply request answer → (b : Bool)
        → awaits x request.number request.op ≡ b
        → Is (if b
        then hearing kept from app.label (bodies.Work (heard v.role.script x answer))
        (note_of v.role.id app.by (node_number v.role.id) request (whats.Accepted answer))
        else hearing kept from app.label bodies.Stay (note_of v.role.id app.by (node_number v.role.id) request (whats.Ignored (Some answer))))
    answers x request answer body talk true e = accepts body talk e
    answers x request answer body talk false e = ignores_reply body talk e

    old : (y : Shard) (request : Request) → n.body ≡ IsShard y → app.talk ≡ talks.Request request → (o : Option Answer)
        → cached_answer (session_of y (node_number from)) request ≡ o
        → request.number ≤ newest (session_of y (node_number from)) → Is (request_plan v n kept from app request (again_or_ignored o))
    old y request body talk None is le = ignores_request body talk le is
    old y request body talk (Some answer) is le = answers_again body talk le is

    asks : (y : Shard) (request : Request) → n.body ≡ IsShard y → app.talk ≡ talks.Request request → (b : Bool)
        → nat_lt (newest (session_of y (node_number from))) request.number ≡ b
        → Is (request_plan v n kept from app request (if b then Waits else again_or_ignored (cached_answer (session_of y (node_number from)) request)))
    asks y request body talk true e = hears body talk (ltb-true _ _ e)
    asks y request body talk false e = old y request body talk (cached_answer (session_of y (node_number from)) request) refl (ltb-false _ _ e)

    by : (b : Body) (t : Talk) → n.body ≡ b → app.talk ≡ t → Is (talk_plan v n kept from app b t)
    by (IsWorker x) (talks.Request r) body talk = misses_request body talk
    by (IsWorker x) (talks.Reply r answer) body talk = answers x r answer body talk (awaits x r.number r.op) refl
    by (IsShard y) (talks.Request r) body talk = asks y r body talk (nat_lt (newest (session_of y (node_number from))) r.number) refl
    by (IsShard y) (talks.Reply r answer) body talk = misses_reply body talk
