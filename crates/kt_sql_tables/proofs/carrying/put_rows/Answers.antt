use Rattle.std.proofs.Common.{◌∙◌, subst, List, Ok, take}
use Rattle.std.specs.Prelude.{IsTrue}
use Rattle.sqlite.specs.Held.{state}
use Rattle.sqlite.specs.Order.{Row}
use Rattle.sqlite.specs.State.{HasCleanDisk, ExecutesInside}
use Rattle.kt_sql_tables.specs.auxiliary.Text.{put_node_text}
use Rattle.kt_sql_tables.specs.declared.cells.NodeCells.{NodeCells}
use Rattle.kt_sql_tables.specs.Cells.{cells_given}
use Rattle.kt_sql_tables.specs.auxiliary.Carrying.{HasTable}
use Rattle.kt_sql_tables.proofs.CarriedRows.{put_row_does}
use Rattle.kt_sql_tables.proofs.CarriedLoop.{HavePut, one_more, one_longer, still_table}
use Rattle.kt_sql_tables.proofs.carrying.put_rows.Goals as goal

pub loop-row-preserved : goal.loop-row-preserved
loop-row-preserved g c =
    let a = state g.S.Store c.args.tx.now.conn.now in
    let b = state g.S.Store c.loop-row.tx.conn.now in
    let d = state g.S.Store c.run.new.tx.conn.now in
    let row = c.row-item.result in
    let count = c.in_ok-run.field-0 in
    let done = take c.loop-row.row-index c.args.rows.now in
    let runs = subst (λ (params : Row). HasCleanDisk d → IsTrue b.in_transaction → ExecutesInside 0 put_node_text params b d (Ok count)) c.params.ensures
    c.in_ok-run.ensures.runs in
    let more = one_more HasTable done row a b d put_node_text (cells_given row) count c.loop-row.invariant.1 c.in_ok-run.ensures.survives
    runs (λ has was ran. put_row_does b d row count (still_table done a.now b.now has was) ran) in (
      c.in_ok-run.ensures.same_reference ∙ c.loop-row.invariant.0,
      subst (λ (l : List NodeCells). HavePut HasTable l a d) (one_longer c.args.rows.now c.loop-row.row-index row c.row-item.is c.loop-row-test.true) more,
    )
