use Rattle.std.proofs.Common.{arith}
use Rattle.kt_story.proofs.Arriving.{drawn_all, drawn_more, drawn_none}
use Rattle.kt_story.proofs.arrow.arrows.Goals as goal

pub loop-row-init : goal.loop-row-init
loop-row-init c =
    drawn_none c.args.story.now c.workers.result c.shards.result c.rows-rows.result.now c.new-found.result.items c.in_ok-ways.ways
    c.workers.ensures c.shards.ensures c.rows-rows.ensures c.new-found.ensures.items c.in_ok-ways.ensures

pub loop-row-preserved : goal.loop-row-preserved
loop-row-preserved c =
    drawn_more c.args.story.now c.rows-rows.result.now c.loop-row.row-index c.row-item.result c.loop-row.found.items
    c.push_arrows.new.found.items c.loop-row.ways c.push_arrows.new.ways c.loop-row-test.true c.row-item.is c.loop-row.invariant
    c.in_ok-push_arrows.ensures.found c.in_ok-push_arrows.ensures.ways

pub returns : goal.returns
returns c =
    drawn_all c.args.story.now c.rows-rows.result.now c.loop-row.row-index c.loop-row.found.items c.loop-row.ways (omega arith)
    c.rows-rows.ensures c.loop-row.invariant
