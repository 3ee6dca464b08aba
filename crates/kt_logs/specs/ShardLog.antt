-- The log of a shard: which acts it may make one after the other, and what they make of it.
-- Cited by Follows, Growth, Merge, Numbered, OneRun, Renamed, Survive, Traces, specs/Legal; other crates.
use Rattle.std.specs.Prelude.{◌≡◌, ℕ, ◌<◌, ◌≤◌, ◌==◌, if◌then◌else◌, Some, None, List, [], ◌∷◌}
use Rattle.kt_tuple.specs.declared.tuple.Tuple.{Tuple}
use Rattle.kt_tuple.specs.declared.op.Answer.{Answer}
use Rattle.kt_tuple.specs.Signature.{kinds_of_op, shard_of}
use Rattle.kt_tuple.specs.Space.{SpaceStep}
use Rattle.kt_history.specs.declared.note.Act.{Act}
use Rattle.kt_history.specs.declared.note.What.{What}
use Rattle.kt_history.specs.declared.note.What.TheVariants as whats
use Rattle.kt_shard.specs.declared.request.Request.{Request}
use Rattle.kt_shard.specs.declared.session.Session.{Session}
use Rattle.kt_shard.specs.Session.{empty_session, newest}
use Rattle.kt_logs.specs.Bag.{served_bag}

-- what a shard's acts make of it: its tuples, a session for each worker's number, and the cause of the last
-- hearing of each worker
pub record MadeShard : Type 0 where
  pub bag : List Tuple
  pub session : ℕ → Session
  pub cause : ℕ → ℕ

-- the request that an act is about
abbrev pub request_of : Act → Request
request_of a = record { number = a.number; op = a.op }

-- a request with this number is new
abbrev pub Hears : ℕ → Session → Type 0
Hears number d = newest d < number

-- nothing waits, and this request was answered so
abbrev pub AnswersAgain : Request → Answer → Session → Type 0
AnswersAgain request answer d = (d.waiting ≡ None) × (d.cached ≡ Some (record { request = request; answer = answer }))

-- the request is neither new nor to be answered again
abbrev pub Ignores : Request → Session → Type 0
Ignores request d = (request.number ≤ newest d) × ((answer : Answer) → ¬ AnswersAgain request answer d)

-- the act a, of this kind, is one that a shard with this bag may make, whose session for the worker is d and whose
-- last hearing of the worker had this cause
abbrev pub ShardMay : List Tuple → Session → ℕ → Act → What → Type 0
ShardMay bag d cause a whats.Heard = Hears a.number d
ShardMay bag d cause a (whats.Served answer) =
    (d.waiting ≡ Some (request_of a)) × (a.by ≡ cause) × SpaceStep bag a.op answer (served_bag bag a.op answer)
ShardMay bag d cause a (whats.Again answer) = AnswersAgain (request_of a) answer d
ShardMay bag d cause a (whats.Ignored None) = Ignores (request_of a) d
ShardMay bag d cause a _ = ⊥

-- the session of the act's worker after it
abbrev pub session_after : Session → Act → What → Session
session_after d a whats.Heard = record { waiting = Some (request_of a); cached = d.cached }
session_after d a (whats.Served answer) =
    record { waiting = None; cached = Some (record { request = request_of a; answer = answer }) }
session_after d a _ = d

-- the bag after the act
abbrev pub bag_after : List Tuple → Act → What → List Tuple
bag_after bag a (whats.Served answer) = served_bag bag a.op answer
bag_after bag a _ = bag

-- the cause of the last hearing after the act
abbrev pub cause_after : ℕ → Act → What → ℕ
cause_after cause a whats.Heard = a.by
cause_after cause a _ = cause

-- a table with another row for one worker
abbrev pub put_row : {X : Type 0} → ℕ → X → (ℕ → X) → ℕ → X
put_row k x rows i = if k == i then x else rows i

abbrev pub shard_after : MadeShard → Act → MadeShard
shard_after x a = record {
  bag = bag_after x.bag a a.what;
  session = put_row a.worker (session_after (x.session a.worker) a a.what) x.session;
  cause = put_row a.worker (cause_after (x.cause a.worker) a a.what) x.cause;
}

-- of so many shards, the shard s may make the act: it is at home there, and by the table of arrivals or a service
abbrev pub ShardMakes : ℕ → ℕ → MadeShard → Act → Type 0
ShardMakes shards s x a =
    (shard_of shards (kinds_of_op a.op) ≡ s) × ShardMay x.bag (x.session a.worker) (x.cause a.worker) a a.what

-- from the state x, the shard s may make these acts one after the other
abbrev pub ShardLog : ℕ → ℕ → MadeShard → List Act → Type 0
ShardLog shards s x [] = Unit {0}
ShardLog shards s x (a ∷ later) = ShardMakes shards s x a × ShardLog shards s (shard_after x a) later

-- the state that the acts lead to
abbrev pub shard_of_acts : MadeShard → List Act → MadeShard
shard_of_acts x [] = x
shard_of_acts x (a ∷ later) = shard_of_acts (shard_after x a) later

-- an empty bag, and no worker heard of
abbrev pub new_shard : MadeShard
new_shard = record { bag = []; session = λ _. empty_session; cause = λ _. 0 }
