use Rattle.std.proofs.Common.{◌+◌, ◌++◌, List, [], ◌∷◌, map, sym, ap, ◌∙◌, append_assoc, arith}
use Rattle.std.specs.List.{range_with_len}
use Rattle.std.proofs.lemmas.List.FromFn.{map-range_with_len_more}
use Rattle.kt_tuple.specs.declared.node.NodeId.{NodeId}
use Rattle.kt_tuple.specs.declared.node.NodeId.TheVariants as ids
use Rattle.kt_resume.proofs.scene.nodes_of.Goals as goal

pub loop-worker-preserved : goal.loop-worker-preserved
loop-worker-preserved c =
    let n = c.loop-worker.worker in
    c.in_ok-push.ensures.items ∙ ap (λ (l : List NodeId). l ++ ids.Worker (n + 1) ∷ []) c.loop-worker.invariant
    ∙ sym (map-range_with_len_more (λ k. ids.Worker k) 1 n (n + 1) (omega arith))

pub loop-shard-preserved : goal.loop-shard-preserved
loop-shard-preserved c =
    let n = c.loop-shard.shard in
    let workers = map (λ k. ids.Worker k) (range_with_len 1 c.args.workers) in
    let shards = map (λ k. ids.Shard k) (range_with_len 1 n) in
    c.in_ok-push-2.ensures.items ∙ ap (λ (l : List NodeId). l ++ ids.Shard (n + 1) ∷ []) c.loop-shard.invariant
    ∙ append_assoc workers shards (ids.Shard (n + 1) ∷ [])
    ∙ ap (λ (l : List NodeId). workers ++ l) (sym (map-range_with_len_more (λ k. ids.Shard k) 1 n (n + 1) (omega arith)))
