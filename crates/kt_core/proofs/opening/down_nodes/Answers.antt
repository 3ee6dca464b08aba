use Rattle.kt_core.proofs.Openings.{no_down, more_down}
use Rattle.kt_core.proofs.opening.down_nodes.Goals as goal

pub loop-number-init : goal.loop-number-init
loop-number-init c = no_down c.in_ok-nodes.nodes.items c.args.scene.now c.in_ok-nodes.ensures.items

pub loop-number-preserved : goal.loop-number-preserved
loop-number-preserved c =
    more_down c.loop-number.nodes.items c.push.new.self.items c.push-in-loop-number.new.self.items c.down_row.result c.down_row-in-loop-number.result
    c.args.scene.now c.loop-number.number
    c.loop-number.invariant c.in_ok-push.ensures.items c.in_ok-push-2.ensures.items c.down_row.ensures c.down_row-in-loop-number.ensures
