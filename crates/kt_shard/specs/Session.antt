-- What a shard remembers of a worker.
-- Cited by Again, Tables, Written, arrival.rt, laws.rt, parts.rt, request.rt, specs/Arrival, specs/Shard,
--   `laws::other_sessions_stay`, `parts::empty_sessions`; other crates.
use Rattle.std.specs.Prelude.{ℕ, ◌==◌, max, Bool, ◌&&◌, if◌then◌else◌, Option, None, Some}
use Rattle.kt_tuple.specs.declared.op.Answer.{Answer}
use Rattle.kt_tuple.specs.Op.{op_eq}
use Rattle.kt_shard.specs.declared.request.Request.{Request}
use Rattle.kt_shard.specs.declared.request.CachedReply.{CachedReply}
use Rattle.kt_shard.specs.declared.session.Session.{Session}

-- one number, and one operation
abbrev pub same_request : Request → Request → Bool
same_request a b = (a.number == b.number) && op_eq a.op b.op

-- the session of a worker that was not heard of
abbrev pub empty_session : Session
empty_session = record { waiting = None; cached = None }

abbrev pub number_or_0 : Option Request → ℕ
number_or_0 None = 0
number_or_0 (Some request) = request.number

abbrev pub cached_request : Option CachedReply → Option Request
cached_request None = None
cached_request (Some cached) = Some cached.request

-- the greatest number that was heard of the worker, or 0
abbrev pub newest : Session → ℕ
newest session = max (number_or_0 session.waiting) (number_or_0 (cached_request session.cached))

abbrev pub answer_if_cached : Option CachedReply → Request → Option Answer
answer_if_cached None request = None
answer_if_cached (Some cached) request = if same_request cached.request request then Some cached.answer else None

abbrev pub answer_unless_waiting : Option Request → Option CachedReply → Request → Option Answer
answer_unless_waiting None cached request = answer_if_cached cached request
answer_unless_waiting (Some waiting) cached request = None

-- what was answered to this request, where it is the one kept and the worker does not wait
abbrev pub cached_answer : Session → Request → Option Answer
cached_answer session request = answer_unless_waiting session.waiting session.cached request
