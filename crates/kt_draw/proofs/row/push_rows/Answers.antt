use Rattle.std.proofs.Common.{arith}
use Rattle.kt_draw.specs.Rows.{IsSaid, row_begin}
use Rattle.kt_draw.proofs.Drawn.{drawn_all, drawn_more, drawn_none}
use Rattle.kt_draw.proofs.row.push_rows.Goals as goal

pub loop-row-init : goal.loop-row-init
loop-row-init c =
    drawn_none (row_begin c.args.sheet c.args.story.now.state.history) (IsSaid c.args.sheet c.args.story.now) c.args.out.now.items

pub loop-row-preserved : goal.loop-row-preserved
loop-row-preserved c =
    drawn_more (row_begin c.args.sheet c.args.story.now.state.history) (IsSaid c.args.sheet c.args.story.now) c.args.out.now.items
    c.loop-row.out.items c.push_row.new.out.items c.args.rows.now c.loop-row.row-index c.row-item.result c.loop-row-test.true c.row-item.is
    c.loop-row.invariant c.in_ok-push_row.ensures

pub returns : goal.returns
returns c =
    drawn_all (row_begin c.args.sheet c.args.story.now.state.history) (IsSaid c.args.sheet c.args.story.now) c.args.out.now.items
    c.loop-row.out.items c.args.rows.now c.loop-row.row-index (omega arith) c.loop-row.invariant
