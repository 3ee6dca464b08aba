use Rattle.kt_core.proofs.Shorts.{short-next, short-all}
use Rattle.kt_core.proofs.opening.scripts_are_short.Goals as goal

pub loop-script-preserved : goal.loop-script-preserved
loop-script-preserved c =
    short-next c.args.scripts.now c.loop-script.script-index c.script-item.result _ c.script-item.is
    c.loop-script-test.true c.commands.ensures.script c.loop-script.invariant

pub returns : goal.returns
returns c = short-all c.args.scripts.now c.loop-script.script-index c.loop-script-test.false c.loop-script.invariant
