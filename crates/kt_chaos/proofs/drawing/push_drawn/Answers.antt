use Rattle.std.proofs.Common.{arith}
use Rattle.kt_chaos.proofs.Draws.{pushed-next}
use Rattle.kt_chaos.proofs.drawing.push_drawn.Goals as goal

pub loop-preserved : goal.loop-preserved
loop-preserved g c =
    pushed-next _ c.loop.faults c.push.new.self c.draw_fault-fault.result c.args.count c.loop.counter c.args.scene.now
    (g.R.Rng.stream c.loop.rng) (g.R.Rng.stream c.draw_fault-fault.new.rng) (omega arith) c.draw_fault-fault.ensures c.in_ok-push.ensures.added
    c.loop.invariant
