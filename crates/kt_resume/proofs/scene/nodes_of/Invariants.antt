use Rattle.std.proofs.Common.{◌≡◌, ◌++◌, map}
use Rattle.std.specs.List.{range_with_len}
use Rattle.kt_tuple.specs.declared.node.NodeId.TheVariants as ids
use Rattle.kt_resume.proofs.scene.nodes_of.Given as goal

-- the workers so far
abbrev pub invariant-loop-worker : goal.invariant-loop-worker
invariant-loop-worker l = l.nodes.items ≡ map (λ n. ids.Worker n) (range_with_len 1 l.worker)

-- the workers, and the shards so far
abbrev pub invariant-loop-shard : goal.invariant-loop-shard
invariant-loop-shard l =
    l.nodes.items ≡ map (λ n. ids.Worker n) (range_with_len 1 l.fn.workers) ++ map (λ n. ids.Shard n) (range_with_len 1 l.shard)
