-- A shard, as plain data.
-- Cited by Again, Steps, Written, laws.rt, parts.rt, shard.rt, specs/Arrival, specs/Service, specs/ShardModel,
--   specs/auxiliary/Sharing; other crates.
use Rattle.std.specs.Prelude.{ℕ, List, [], replicate}
use Rattle.kt_tuple.specs.declared.tuple.Tuple.{Tuple}
use Rattle.kt_shard.specs.declared.session.Session.{Session}
use Rattle.kt_shard.specs.Limits.{sessions as session_count}
use Rattle.kt_shard.specs.Table.{at, put}
use Rattle.kt_shard.specs.Session.{empty_session}

-- the tuples in order of arrival, and what is remembered of each worker, by the worker's number
pub record Shard : Type 0 where
  pub bag : List Tuple
  pub sessions : List Session

-- no tuple, and no worker heard of
abbrev pub empty_shard : Shard
empty_shard = record { bag = []; sessions = replicate session_count empty_session }

-- what is remembered of the worker with this number
abbrev pub session_of : Shard → ℕ → Session
session_of y worker = at empty_session y.sessions worker

-- the shard with another session for the worker with this number
abbrev pub with_session : Shard → ℕ → Session → Shard
with_session y worker session = record y { sessions = put empty_session y.sessions worker session }
