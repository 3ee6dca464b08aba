use Rattle.std.proofs.Common.{◌≡◌, take}
use Rattle.sqlite.specs.Held.{state}
use Rattle.kt_sql_tables.specs.auxiliary.Carrying.{HasTable}
use Rattle.kt_sql_tables.proofs.CarriedLoop.{HavePut}
use Rattle.kt_sql_tables.proofs.carrying.put_rows.Given as goal

abbrev pub invariant-loop-row : goal.invariant-loop-row
invariant-loop-row g l =
    (l.tx.conn.ghost_name ≡ l.fn.tx.conn.ghost_name)
    × HavePut HasTable (take l.row-index l.rows) (state g.S.Store l.fn.tx.conn.now) (state g.S.Store l.tx.conn.now)
