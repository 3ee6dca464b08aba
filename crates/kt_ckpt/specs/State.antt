-- What a checkpoint holds of its node, in bytes.
-- Cited by Checkpoints, OldStates, OldWorkers, States, entry.rt, old_state.rt, shard.rt, specs/Checkpoint,
--   specs/OldState, worker.rt, `entry::push_each`, `worker::push_fields`.
use Rattle.std.specs.Prelude.{ℕ, ◌≤◌, ◌<◌, ◌^◌, Bool, true, false}
use Rattle.std.specs.Prelude.{List, [], ◌∷◌, ◌++◌, length, Option, None, Some, IfSome, Result, Ok, All}
use Rattle.std.specs.List.{flat_map}
use Rattle.std.specs.Int.{w16, w32, w64, to_be_bytes}
use Rattle.kt_tuple.specs.declared.value.Value.{Value}
use Rattle.kt_tuple.specs.declared.tuple.Tuple.{Tuple}
use Rattle.kt_tuple.specs.declared.op.Op.{Op}
use Rattle.kt_tuple.specs.Valid.{IsValue}
use Rattle.kt_ckpt.specs.declared.error.CkptError.{CkptError}
use Rattle.kt_shard.specs.declared.request.Request.{Request}
use Rattle.kt_shard.specs.declared.request.CachedReply.{CachedReply}
use Rattle.kt_ckpt.specs.Fields.{WorkerFields, worker_of, ShardFields}
use Rattle.kt_script.specs.declared.script.TheConstants.{MAX_COMMANDS, MAX_VARIABLES}
use Rattle.kt_tuple.specs.declared.node.TheConstants.{MAX_WORKERS}
use Rattle.kt_ckpt.specs.Reading.{◌>>=◌, Reader, made, byte_within, within, number_at, list_at, rising_at, IsRising}
use Rattle.kt_ckpt.specs.Flag.{flag_bytes, flag_at}
use Rattle.kt_ckpt.specs.Value.{value_bytes, value_at}
use Rattle.kt_ckpt.specs.Tuple.{IsTuple, tuple_bytes, tuple_at}
use Rattle.kt_ckpt.specs.Op.{IsOp, IsAnswer, op_bytes, op_at, answer_bytes, answer_at}

-- ---- a worker

-- the counts and numbers that have a spelling
abbrev pub IsCountedWorker : WorkerFields → Type 0
IsCountedWorker w = (w.pc ≤ MAX_COMMANDS) × (length w.variables ≤ MAX_VARIABLES)

-- what has a spelling
pub record IsWorker (w : WorkerFields) : Type 0 where
  pub pc : w.pc ≤ MAX_COMMANDS
  pub number : w.number < 2 ^ 64
  pub asked : IfSome w.asked IsOp
  pub few : length w.variables ≤ MAX_VARIABLES
  pub variables : All IsValue w.variables

-- a flag, and the operation where there is one
abbrev pub asked_bytes : Option Op → List ℕ
asked_bytes None = 0 ∷ []
asked_bytes (Some op) = 1 ∷ op_bytes op

abbrev pub variables_bytes : List Value → List ℕ
variables_bytes values = length values ∷ flat_map value_bytes values

abbrev pub worker_bytes : WorkerFields → List ℕ
worker_bytes w =
    to_be_bytes w16 w.pc ++ (to_be_bytes w64 w.number ++ (flag_bytes w.was_none
    ++ (asked_bytes w.asked ++ variables_bytes w.variables)))

unfoldable pub pc_at : List ℕ → Result (ℕ × List ℕ) CkptError
pc_at bytes = number_at w16 bytes >>= within 0 MAX_COMMANDS

-- the operation behind the flag that says whether there is one
abbrev pub asked_behind : Bool → List ℕ → Result (Option Op × List ℕ) CkptError
asked_behind false bytes = Ok (None, bytes)
asked_behind true bytes = made Some (op_at bytes)

unfoldable pub asked_at : List ℕ → Result (Option Op × List ℕ) CkptError
asked_at bytes = do
  is ← flag_at bytes
  asked_behind is.0 is.1

unfoldable pub variables_at : List ℕ → Result (List Value × List ℕ) CkptError
variables_at bytes = do
  n ← byte_within 0 MAX_VARIABLES bytes
  list_at value_at n.0 n.1

unfoldable pub worker_at : List ℕ → Result (WorkerFields × List ℕ) CkptError
worker_at bytes = do
  pc ← pc_at bytes
  number ← number_at w64 pc.1
  was_none ← flag_at number.1
  asked ← asked_at was_none.1
  variables ← variables_at asked.1
  Ok (worker_of pc.0 number.0 was_none.0 asked.0 variables.0, variables.1)

-- ---- a shard

abbrev pub IsCountedShard : ShardFields → Type 0
IsCountedShard s = (length s.bag < 2 ^ 32) × IsRising 1 s.waiting × IsRising 1 s.cached

pub record IsRequest (r : Request) : Type 0 where
  pub number : r.number < 2 ^ 64
  pub op : IsOp r.op

pub record IsCached (k : CachedReply) : Type 0 where
  pub request : IsRequest k.request
  pub answer : IsAnswer k.answer

-- what has a spelling
pub record IsShard (s : ShardFields) : Type 0 where
  pub few : length s.bag < 2 ^ 32
  pub bag : All IsTuple s.bag
  pub waiting_rises : IsRising 1 s.waiting
  pub waiting : All (λ x. IsRequest x.1) s.waiting
  pub cached_rises : IsRising 1 s.cached
  pub cached : All (λ x. IsCached x.1) s.cached

abbrev pub bag_bytes : List Tuple → List ℕ
bag_bytes tuples = to_be_bytes w32 (length tuples) ++ flat_map tuple_bytes tuples

abbrev pub request_bytes : Request → List ℕ
request_bytes r = to_be_bytes w64 r.number ++ op_bytes r.op

abbrev pub cached_bytes : CachedReply → List ℕ
cached_bytes k = request_bytes k.request ++ answer_bytes k.answer

-- a worker, and what is held for it
abbrev pub entry_bytes : {X : Type 0} → (X → List ℕ) → ℕ × X → List ℕ
entry_bytes spelled x = x.0 ∷ spelled x.1

abbrev pub entries_bytes : {X : Type 0} → (X → List ℕ) → List (ℕ × X) → List ℕ
entries_bytes spelled entries = length entries ∷ flat_map (entry_bytes spelled) entries

abbrev pub shard_bytes : ShardFields → List ℕ
shard_bytes s = bag_bytes s.bag ++ (entries_bytes request_bytes s.waiting ++ entries_bytes cached_bytes s.cached)

unfoldable pub bag_at : List ℕ → Result (List Tuple × List ℕ) CkptError
bag_at bytes = do
  n ← number_at w32 bytes
  list_at tuple_at n.0 n.1

unfoldable pub request_at : List ℕ → Result (Request × List ℕ) CkptError
request_at bytes = do
  number ← number_at w64 bytes
  op ← op_at number.1
  Ok (record { number = number.0; op = op.0 }, op.1)

unfoldable pub cached_at : List ℕ → Result (CachedReply × List ℕ) CkptError
cached_at bytes = do
  request ← request_at bytes
  answer ← answer_at request.1
  Ok (record { request = request.0; answer = answer.0 }, answer.1)

-- how many entries there are, and these
unfoldable pub entries_at : {X : Type 0} → Reader X → Reader (List (ℕ × X))
entries_at read bytes = do
  n ← byte_within 0 MAX_WORKERS bytes
  rising_at read 1 n.0 n.1

unfoldable pub shard_at : List ℕ → Result (ShardFields × List ℕ) CkptError
shard_at bytes = do
  bag ← bag_at bytes
  waiting ← entries_at request_at bag.1
  cached ← entries_at cached_at waiting.1
  Ok (record { bag = bag.0; waiting = waiting.0; cached = cached.0 }, cached.1)
