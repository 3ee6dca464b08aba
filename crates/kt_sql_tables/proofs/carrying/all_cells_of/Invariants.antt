use Rattle.std.specs.List.{AllByRecursion}
use Rattle.kt_sql_tables.specs.Old.{IsOldRow}
use Rattle.kt_sql_tables.proofs.CarryLemmas.{AreFirstCells}
use Rattle.kt_sql_tables.proofs.carrying.all_cells_of.Given as goal

abbrev pub invariant-loop-row : goal.invariant-loop-row
invariant-loop-row l = AllByRecursion IsOldRow l.rows → AreFirstCells l.rows l.row-index l.cells.items
