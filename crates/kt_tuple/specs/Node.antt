-- The names of nodes: their numbers, their order, and the lists of those that a scene can have.
-- Cited by Nodes, equality.rt, laws.rt, node.rt; other crates.
use Rattle.std.specs.Prelude.{◌≡◌, ℕ, ◌+◌, ◌*◌, Bool, true, false, nat_eq, nat_lt, List, ◌++◌, map}
use Rattle.std.specs.Bool.{Decides}
use Rattle.std.specs.List.{range_with_len}
use Rattle.std.specs.Cmp.{unsigned_Decides}
use Rattle.std.proofs.Common.{ap}
use Rattle.kt_tuple.specs.declared.node.NodeId.{NodeId}
use Rattle.kt_tuple.specs.declared.node.NodeId.TheVariants.{Worker, Shard}
use Rattle.kt_tuple.specs.declared.node.TheConstants.{MAX_WORKERS, MAX_SHARDS}

-- the number of a node among its kind
abbrev pub node_number : NodeId → ℕ
node_number (Worker n) = n
node_number (Shard n) = n

-- a comes before b in node order: first the workers, then the shards, each by their numbers
abbrev pub is_before : NodeId → NodeId → Bool
is_before (Worker m) (Worker n) = nat_lt m n
is_before (Worker m) (Shard n) = true
is_before (Shard m) (Worker n) = false
is_before (Shard m) (Shard n) = nat_lt m n

-- the names that a scene can have, in node order
abbrev pub all_workers : List NodeId
all_workers = map Worker (range_with_len 1 MAX_WORKERS)

abbrev pub all_shards : List NodeId
all_shards = map Shard (range_with_len 1 MAX_SHARDS)

abbrev pub all_nodes : List NodeId
all_nodes = all_workers ++ all_shards

-- how many names there are: 256 of workers and 256 of shards
abbrev pub names : ℕ
names = 512

-- a number of its own for each node: workers have the even ones, shards the odd ones
abbrev pub node_index : NodeId → ℕ
node_index (Worker n) = 2 * n
node_index (Shard n) = 2 * n + 1

-- when two names are one, as a test that computes
abbrev pub node_eq : NodeId → NodeId → Bool
node_eq (Worker m) (Worker n) = nat_eq m n
node_eq (Shard m) (Shard n) = nat_eq m n
node_eq _ _ = false

pub node_eq_decides : (a b : NodeId) → Decides (node_eq a b) (a ≡ b)
node_eq_decides (Worker m) (Worker n) =
    (λ e. ap Worker ((unsigned_Decides m n).0 e), λ (e : Worker m ≡ Worker n). (unsigned_Decides m n).1 cc)
node_eq_decides (Shard m) (Shard n) =
    (λ e. ap Shard ((unsigned_Decides m n).0 e), λ (e : Shard m ≡ Shard n). (unsigned_Decides m n).1 cc)
node_eq_decides _ _ = (λ e. absurd cc, λ e. absurd cc)
