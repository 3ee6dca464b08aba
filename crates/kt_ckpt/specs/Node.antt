-- Nodes in bytes.
-- Cited by ActCauses, ActFields, Checkpoints, Nodes, OldCheckpoints, OldParts, act_bytes.rt, decode.rt, encode.rt,
--   old.rt, specs/Acts, specs/Checkpoint, specs/Header, specs/Old; other crates.
use Rattle.std.specs.Prelude.{ℕ, ◌≤◌, ◌==◌, if◌then◌else◌, List, [], ◌∷◌, Result, Ok, Err}
use Rattle.kt_tuple.specs.declared.node.NodeId.{NodeId}
use Rattle.kt_tuple.specs.declared.node.NodeId.TheVariants.{Worker, Shard}
use Rattle.kt_ckpt.specs.declared.error.CkptError.{CkptError}
use Rattle.kt_ckpt.specs.declared.error.CkptError.TheVariants.{Field}
use Rattle.kt_ckpt.specs.Limits.{worker_code, shard_code}
use Rattle.kt_tuple.specs.declared.node.TheConstants.{MAX_WORKERS, MAX_SHARDS}
use Rattle.kt_ckpt.specs.Reading.{◌>>=◌, made, byte_at, byte_within}

-- one of the workers or shards that there may be
abbrev pub IsNode : NodeId → Type 0
IsNode (Worker i) = (1 ≤ i) × (i ≤ MAX_WORKERS)
IsNode (Shard i) = (1 ≤ i) × (i ≤ MAX_SHARDS)

abbrev pub node_bytes : NodeId → List ℕ
node_bytes (Worker i) = worker_code ∷ i ∷ []
node_bytes (Shard i) = shard_code ∷ i ∷ []

-- the node behind the code of its kind
abbrev pub node_behind : ℕ → List ℕ → Result (NodeId × List ℕ) CkptError
node_behind kind bytes =
    if kind == worker_code then made Worker (byte_within 1 MAX_WORKERS bytes)
    else if kind == shard_code then made Shard (byte_within 1 MAX_SHARDS bytes)
    else Err Field

unfoldable pub node_at : List ℕ → Result (NodeId × List ℕ) CkptError
node_at bytes = do
  kind ← byte_at bytes
  node_behind kind.0 kind.1
