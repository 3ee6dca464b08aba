-- How what a node held is read in format 1.
-- Cited by OldCheckpoints, OldRising, OldStates, OldWorkers, old_state.rt, specs/Old, `old_state::old_rising_at`.
use Rattle.std.specs.Prelude.{ℕ, zero, suc, ◌+◌, Bool, true, false, List, [], ◌∷◌, Option, None, Some, Result, Ok}
use Rattle.std.specs.Int.{w32, w64}
use Rattle.kt_tuple.specs.declared.node.NodeId.{NodeId}
use Rattle.kt_tuple.specs.declared.node.NodeId.TheVariants.{Worker, Shard}
use Rattle.kt_tuple.specs.declared.value.Value.{Value}
use Rattle.kt_tuple.specs.declared.tuple.Tuple.{Tuple}
use Rattle.kt_tuple.specs.declared.op.Op.{Op}
use Rattle.kt_script.specs.declared.script.TheConstants.{MAX_VARIABLES}
use Rattle.kt_shard.specs.declared.request.Request.{Request}
use Rattle.kt_shard.specs.declared.request.CachedReply.{CachedReply}
use Rattle.kt_ckpt.specs.declared.error.CkptError.{CkptError}
use Rattle.kt_ckpt.specs.declared.old_limits.TheConstants.{OLD_WORKERS}
use Rattle.kt_ckpt.specs.declared.state.State.{State}
use Rattle.kt_ckpt.specs.declared.state.State.TheVariants as states
use Rattle.kt_ckpt.specs.Fields.{WorkerFields, worker_of, ShardFields}
use Rattle.kt_ckpt.specs.Flag.{flag_at}
use Rattle.kt_ckpt.specs.OldParts.{old_value_at, old_tuple_at, old_op_at, old_answer_at}
use Rattle.kt_ckpt.specs.Reading.{◌>>=◌, Reader, made, byte_within, number_at, list_at}
use Rattle.kt_ckpt.specs.State.{pc_at}

-- the operation behind the flag that says whether there is one
abbrev pub old_asked_behind : Bool → List ℕ → Result (Option Op × List ℕ) CkptError
old_asked_behind false bytes = Ok (None, bytes)
old_asked_behind true bytes = made Some (old_op_at bytes)

unfoldable pub old_asked_at : List ℕ → Result (Option Op × List ℕ) CkptError
old_asked_at bytes = do
  is ← flag_at bytes
  old_asked_behind is.0 is.1

unfoldable pub old_variables_at : List ℕ → Result (List Value × List ℕ) CkptError
old_variables_at bytes = do
  n ← byte_within 0 MAX_VARIABLES bytes
  list_at old_value_at n.0 n.1

unfoldable pub old_worker_at : List ℕ → Result (WorkerFields × List ℕ) CkptError
old_worker_at bytes = do
  pc ← pc_at bytes
  number ← number_at w64 pc.1
  was_none ← flag_at number.1
  asked ← old_asked_at was_none.1
  variables ← old_variables_at asked.1
  Ok (worker_of pc.0 number.0 was_none.0 asked.0 variables.0, variables.1)

unfoldable pub old_bag_at : List ℕ → Result (List Tuple × List ℕ) CkptError
old_bag_at bytes = do
  n ← number_at w32 bytes
  list_at old_tuple_at n.0 n.1

unfoldable pub old_request_at : List ℕ → Result (Request × List ℕ) CkptError
old_request_at bytes = do
  number ← number_at w64 bytes
  op ← old_op_at number.1
  Ok (record { number = number.0; op = op.0 }, op.1)

unfoldable pub old_cached_at : List ℕ → Result (CachedReply × List ℕ) CkptError
old_cached_at bytes = do
  request ← old_request_at bytes
  answer ← old_answer_at request.1
  Ok (record { request = request.0; answer = answer.0 }, answer.1)

-- so many values, each behind its worker, which is above the one before; the first is the least or above it
unfoldable pub old_rising_at : {X : Type 0} → Reader X → ℕ → ℕ → Reader (List (ℕ × X))
old_rising_at read least zero bytes = Ok ([], bytes)
old_rising_at read least (suc n) bytes = do
  worker ← byte_within least OLD_WORKERS bytes
  first ← read worker.1
  others ← old_rising_at read (worker.0 + 1) n first.1
  Ok ((worker.0, first.0) ∷ others.0, others.1)

-- how many entries there are, and these
unfoldable pub old_entries_at : {X : Type 0} → Reader X → Reader (List (ℕ × X))
old_entries_at read bytes = do
  n ← byte_within 0 OLD_WORKERS bytes
  old_rising_at read 1 n.0 n.1

unfoldable pub old_shard_at : List ℕ → Result (ShardFields × List ℕ) CkptError
old_shard_at bytes = do
  bag ← old_bag_at bytes
  waiting ← old_entries_at old_request_at bag.1
  cached ← old_entries_at old_cached_at waiting.1
  Ok (record { bag = bag.0; waiting = waiting.0; cached = cached.0 }, cached.1)

-- the state of this node
unfoldable pub old_state_at : NodeId → List ℕ → Result (State × List ℕ) CkptError
old_state_at (Worker i) bytes = made states.Worker (old_worker_at bytes)
old_state_at (Shard i) bytes = made states.Shard (old_shard_at bytes)
