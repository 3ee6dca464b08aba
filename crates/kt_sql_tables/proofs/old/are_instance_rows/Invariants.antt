use Rattle.std.proofs.Common.{◌≡◌, length, map}
use Rattle.std.specs.Prelude.{◌↔◌}
use Rattle.std.specs.List.{AllByRecursion}
use Rattle.kt_sql_tables.specs.Rows.{IsInstanceRow, instance_row_given}
use Rattle.kt_sql_tables.proofs.old.are_instance_rows.Given as goal

abbrev pub invariant-loop-row : goal.invariant-loop-row
invariant-loop-row l =
    (AllByRecursion IsInstanceRow l.board × (l.rows ≡ map instance_row_given l.board)) ↔
    (AllByRecursion IsInstanceRow l.left × (l.rest ≡ map instance_row_given l.left))

abbrev pub decreases-loop-row : goal.decreases-loop-row
decreases-loop-row l = length l.rest
