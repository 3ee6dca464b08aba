use Rattle.kt_story.proofs.Arriving.{arrivals_more}
use Rattle.kt_story.proofs.arrow.arrivals_of.Goals as goal

pub loop-row-preserved : goal.loop-row-preserved
loop-row-preserved c =
    arrivals_more c.args.workers c.args.shards c.args.rows.now c.loop-row.row-index c.row-item.result c.loop-row.ways c.put_arrival.new.ways
    c.loop-row-test.true c.row-item.is c.loop-row.invariant c.in_ok-put_arrival.ensures
