use Rattle.kt_core.proofs.Openings.{no_rows, more_rows}
use Rattle.kt_core.proofs.opening.push_rows.Goals as goal

pub loop-number-init : goal.loop-number-init
loop-number-init c = no_rows c.args.nodes.now.items c.args.scene.now c.requires.none

pub loop-number-preserved : goal.loop-number-preserved
loop-number-preserved c =
    more_rows c.loop-number.nodes.items c.push.new.self.items c.push-in-loop-number.new.self.items c.in_ok-worker.worker c.in_ok-shard.shard
    c.args.scene.now c.loop-number.number
    c.loop-number.invariant c.in_ok-push.ensures.items c.in_ok-push-2.ensures.items c.in_ok-worker.ensures c.in_ok-shard.ensures
