-- How a shard serves a request.
-- Cited by Again, Steps, Written, laws.rt, parts.rt, service.rt, shard.rt, specs/Views, `Parts::carry_out`; other
--   crates.
use Rattle.std.specs.Prelude.{◌≡◌, ◌≢◌, ℕ, ◌==◌, if◌then◌else◌, List, [], ◌∷◌, ◌++◌}
use Rattle.std.specs.Prelude.{Option, None, Some, slice_get, Result, Ok, Err, IsOk}
use Rattle.std.specs.Option.{option_map}
use Rattle.kt_tuple.specs.declared.tuple.Tuple.{Tuple}
use Rattle.kt_tuple.specs.declared.op.Op.{Op}
use Rattle.kt_tuple.specs.declared.op.Op.TheVariants.{Out, In, Rd, Inp, Rdp}
use Rattle.kt_tuple.specs.declared.op.Answer.{Answer}
use Rattle.kt_tuple.specs.declared.op.Answer.TheVariants as answers
use Rattle.kt_tuple.specs.Space.{SpaceStep}
use Rattle.kt_space.specs.Picking.{matching, without_match}
use Rattle.kt_shard.specs.declared.request.Request.{Request}
use Rattle.kt_shard.specs.declared.request.CachedReply.{CachedReply}
use Rattle.kt_shard.specs.declared.error.ServeError.{ServeError}
use Rattle.kt_shard.specs.declared.error.ServeError.TheVariants as refusals
use Rattle.kt_shard.specs.Shard.{Shard, session_of, with_session}

-- what is served: the request, the place of its match among the tuples that match, and how it is answered
pub record Service : Type 0 where
  pub request : Request
  pub place : ℕ
  pub answer : Answer

-- where there is nothing to choose from, only place 0 will do
abbrev pub at_first : ℕ → Answer → Option Answer
at_first place answer = if place == 0 then Some answer else None

-- an operation that does not wait finds nothing where no tuple matches
abbrev pub got_or_none : ℕ → Option Tuple → Option Answer
got_or_none place None = at_first place answers.None
got_or_none place (Some u) = Some (answers.Got u)

-- how the operation is answered with the match of this place, counted from 0 in order of arrival, if it can be
abbrev pub answer_at : List Tuple → Op → ℕ → Option Answer
answer_at bag (Out u) place = at_first place answers.Done
answer_at bag (In t) place = option_map answers.Got (slice_get (matching t bag) place)
answer_at bag (Rd t) place = option_map answers.Got (slice_get (matching t bag) place)
answer_at bag (Inp t) place = got_or_none place (slice_get (matching t bag) place)
answer_at bag (Rdp t) place = got_or_none place (slice_get (matching t bag) place)

-- what the operation leaves of the bag
abbrev pub left_by : List Tuple → Op → ℕ → List Tuple
left_by bag (Out u) place = bag ++ u ∷ []
left_by bag (In t) place = without_match t place bag
left_by bag (Rd t) place = bag
left_by bag (Inp t) place = without_match t place bag
left_by bag (Rdp t) place = bag

abbrev pub service_if : Request → ℕ → Option Answer → Result Service ServeError
service_if request place None = Err refusals.NoSuchMatch
service_if request place (Some answer) = Ok (record { request = request; place = place; answer = answer })

abbrev pub service_of : List Tuple → Option Request → ℕ → Result Service ServeError
service_of bag None place = Err refusals.NotWaiting
service_of bag (Some request) place = service_if request place (answer_at bag request.op place)

-- how the waiting request of the worker with this number is served with the match of this place, or why not
abbrev pub service : Shard → ℕ → ℕ → Result Service ServeError
service y worker place = service_of y.bag (session_of y worker).waiting place

-- what is kept of a service
abbrev pub cached_of : Service → CachedReply
cached_of s = record { request = s.request; answer = s.answer }

-- the shard after the service of the worker with this number: it waits no more, and the answer is kept
abbrev pub served : Shard → ℕ → Service → Shard
served y worker s =
    with_session (record y { bag = left_by y.bag s.request.op s.place }) worker
    (record { waiting = None; cached = Some (cached_of s) })

-- the refusal is the one that is due; where none is, memory ran out
abbrev pub Refuses : ServeError → Result Service ServeError → Type 0
Refuses refusals.OutOfMemory due = IsOk due
Refuses refusal due = due ≡ Err refusal

-- a step of the sequential space on the shard's own tuples answered what the worker waited with, and that is kept
pub record IsServed (old : Shard) (worker : ℕ) (new : Shard) : Type 0 where
  pub cached : CachedReply
  pub waited : (session_of old worker).waiting ≡ Some cached.request
  pub step : SpaceStep old.bag cached.request.op cached.answer new.bag
  pub session : session_of new worker ≡ record { waiting = None; cached = Some cached }
  pub others : (v : ℕ) → v ≢ worker → session_of new v ≡ session_of old v
