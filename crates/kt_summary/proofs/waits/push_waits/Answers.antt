use Rattle.std.proofs.Common.{ap, ◌++◌, ◌∙◌, List, arith}
use Rattle.std.proofs.lemmas.List.{take_all}
use Rattle.std.specs.List.{flat_map}
use Rattle.kt_tuple.specs.declared.node.NodeId.{NodeId}
use Rattle.kt_tuple.specs.declared.node.NodeId.TheVariants.{Worker}
use Rattle.kt_summary.specs.Waits.{wait_at, waits_of}
use Rattle.kt_summary.proofs.Lists.{flat-more}
use Rattle.kt_summary.proofs.waits.push_waits.Goals as goal

pub loop-shard-preserved : goal.loop-shard-preserved
loop-shard-preserved g c =
    flat-more (wait_at c.args.world.now.state c.args.worker) c.args.shards.now c.loop-shard.shard-index (Worker 0) c.args.found.now.items
    c.loop-shard.found.items c.push_wait.new.found.items c.loop-shard-test.true c.loop-shard.invariant c.in_ok-push_wait.ensures

pub returns : goal.returns
unfolding waits_of
returns g c =
    let shards = c.args.shards.now in
    let all = take_all c.loop-shard.shard-index shards (omega (arith, c.loop-shard-test.false)) in
    c.loop-shard.invariant
    ∙ ap (λ (ns : List NodeId). c.args.found.now.items ++ flat_map (wait_at c.args.world.now.state c.args.worker) ns) all
