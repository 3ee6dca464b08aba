-- What a shard makes of a request that it hears.
-- Cited by Again, Written, arrival.rt, laws.rt, parts.rt, shard.rt; other crates.
use Rattle.std.specs.Prelude.{ℕ, nat_lt, if◌then◌else◌, Option, None, Some}
use Rattle.kt_tuple.specs.declared.op.Answer.{Answer}
use Rattle.kt_shard.specs.declared.request.Request.{Request}
use Rattle.kt_shard.specs.declared.session.Session.{Session}
use Rattle.kt_shard.specs.declared.arrival.Arrival.{Arrival as ArrivalCode}
use Rattle.kt_shard.specs.declared.arrival.Arrival.TheVariants as codes
use Rattle.kt_shard.specs.declared.arrival.Heard.{Heard as HeardCode}
use Rattle.kt_shard.specs.declared.arrival.Heard.TheVariants as heards
use Rattle.kt_shard.specs.Shard.{Shard, session_of, with_session}
use Rattle.kt_shard.specs.Session.{newest, cached_answer}

pub data Arrival : Type 0 where
  -- the worker waits with it from now on
  Waits : Arrival
  -- it is answered again so
  Again : Answer → Arrival
  -- nothing comes of it
  Ignored : Arrival

-- the code's answer, which lends what is kept
abbrev pub arrival_view : ArrivalCode → Arrival
arrival_view codes.Waits = Waits
arrival_view (codes.Again answer) = Again answer.now
arrival_view codes.Ignored = Ignored

-- the code's answer that has its own
abbrev pub heard_view : HeardCode → Arrival
heard_view heards.Waits = Waits
heard_view (heards.Again answer) = Again answer
heard_view heards.Ignored = Ignored

abbrev pub again_or_ignored : Option Answer → Arrival
again_or_ignored None = Ignored
again_or_ignored (Some answer) = Again answer

-- a new number waits, the request that is kept is answered again, and all else is ignored
abbrev pub arrival_at : Session → Request → Arrival
arrival_at session request =
    if nat_lt (newest session) request.number then Waits else again_or_ignored (cached_answer session request)

-- what hearing the request of the worker with this number comes to
abbrev pub arrival : Shard → ℕ → Request → Arrival
arrival y worker request = arrival_at (session_of y worker) request

-- the worker of this number waits with the request
abbrev pub waiting_shard : Shard → ℕ → Request → Shard
waiting_shard y worker request = with_session y worker
    (record { waiting = Some request; cached = (session_of y worker).cached })

-- the shard after hearing what comes to this
abbrev pub heard_as : Arrival → Shard → ℕ → Request → Shard
heard_as Waits y worker request = waiting_shard y worker request
heard_as (Again answer) y worker request = y
heard_as Ignored y worker request = y

-- the shard after hearing the request of the worker with this number
abbrev pub heard : Shard → ℕ → Request → Shard
heard y worker request = heard_as (arrival y worker request) y worker request
