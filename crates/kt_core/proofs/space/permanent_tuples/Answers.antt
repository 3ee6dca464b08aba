use Rattle.kt_tuple.specs.declared.node.NodeId.TheVariants as ids
use Rattle.kt_model.specs.Cut.{permanent_of, tuples_of}
use Rattle.kt_core.proofs.Later.{added}
use Rattle.kt_core.proofs.space.permanent_tuples.Goals as goal

pub loop-before-preserved : goal.loop-before-preserved
loop-before-preserved g c =
    added g.S.CkptStore c.args.store.now c.loop-before.store c.add_tuples.new.store
    (λ d r. tuples_of (permanent_of d (ids.Shard r)))
    c.loop-before.tuples.items c.add_tuples.new.tuples.items c.loop-before.before _ c.loop-before.invariant.0 c.loop-before.invariant.1
    c.in_ok-add_tuples.ensures
