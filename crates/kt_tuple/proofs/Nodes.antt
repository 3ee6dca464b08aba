-- Each node has a number of its own, and is the same as itself.
-- Cited by `laws::numbers_tell_apart`; other crates.
use Rattle.std.proofs.Common.{◌≡◌, true, refl, ap, arith}
use Rattle.kt_tuple.specs.declared.node.NodeId.{NodeId}
use Rattle.kt_tuple.specs.declared.node.NodeId.TheVariants.{Worker, Shard}
use Rattle.kt_tuple.specs.Node.{node_index, node_eq, node_eq_decides}

pub node_index-injective : (p q : NodeId) → node_index p ≡ node_index q → p ≡ q
node_index-injective (Worker m) (Worker n) e = let same : m ≡ n = omega arith in ap Worker same
node_index-injective (Worker m) (Shard n) e = absurd (omega arith)
node_index-injective (Shard m) (Worker n) e = absurd (omega arith)
node_index-injective (Shard m) (Shard n) e = let same : m ≡ n = omega arith in ap Shard same

pub node_eq-refl : (p : NodeId) → node_eq p p ≡ true
node_eq-refl p = (node_eq_decides p p).1 refl
