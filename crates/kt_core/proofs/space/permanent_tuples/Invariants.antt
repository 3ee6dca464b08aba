use Rattle.std.proofs.Common.{◌≡◌}
use Rattle.std.specs.Prelude.{IsTrue}
use Rattle.std.specs.List.{flat_map, range_with_len}
use Rattle.kt_tuple.specs.declared.node.NodeId.TheVariants as ids
use Rattle.kt_model.specs.Cut.{permanent_of, tuples_of}
use Rattle.kt_core.proofs.Later.{Follows}
use Rattle.kt_core.proofs.space.permanent_tuples.Given as goal

-- the tuples of the shards so far, of a store that stays as it was
abbrev pub invariant-loop-before : goal.invariant-loop-before
invariant-loop-before g l =
    Follows g.S.CkptStore l.fn.store l.store
    × (IsTrue (g.S.CkptStore.is_honest l.store) → l.tuples.items ≡
    flat_map (λ r. tuples_of (permanent_of (g.S.CkptStore.content l.fn.store) (ids.Shard r))) (range_with_len 1 l.before))
