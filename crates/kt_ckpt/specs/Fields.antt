-- A checkpoint as plain data.
-- Cited by Checkpoints, OldStates, OldWorkers, States, specs/OldLimits, specs/OldState, specs/State, state.rt,
--   worker.rt; other crates.
use Rattle.std.specs.Prelude.{ℕ, Bool, List, Option}
use Rattle.kt_tuple.specs.declared.value.Value.{Value}
use Rattle.kt_tuple.specs.declared.tuple.Tuple.{Tuple}
use Rattle.kt_tuple.specs.declared.op.Op.{Op}
use Rattle.kt_shard.specs.declared.request.Request.{Request}
use Rattle.kt_shard.specs.declared.request.CachedReply.{CachedReply}

-- a worker: the number of its next command, that of its last request, whether its last answer was none, what it asked
-- for and has no answer to, and the values of its variables
pub record WorkerFields : Type 0 where
  pub pc : ℕ
  pub number : ℕ
  pub was_none : Bool
  pub asked : Option Op
  pub variables : List Value

abbrev pub worker_of : ℕ → ℕ → Bool → Option Op → List Value → WorkerFields
worker_of pc number was_none asked variables = record {
  pc = pc;
  number = number;
  was_none = was_none;
  asked = asked;
  variables = variables;
}

-- a shard: its tuples in order of arrival, and for some workers the request that waits and the one that was served last
pub record ShardFields : Type 0 where
  pub bag : List Tuple
  pub waiting : List (ℕ × Request)
  pub cached : List (ℕ × CachedReply)
