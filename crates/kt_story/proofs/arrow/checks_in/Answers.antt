use Rattle.kt_story.proofs.Arriving.{checks_more}
use Rattle.kt_story.proofs.arrow.checks_in.Goals as goal

pub loop-row-preserved : goal.loop-row-preserved
loop-row-preserved c =
    checks_more c.args.rows.now c.loop-row.row-index c.row-item.result c.loop-row.checks.items c.put_check.new.checks.items c.loop-row-test.true
    c.row-item.is c.loop-row.invariant c.in_ok-put_check.ensures
