use Rattle.std.proofs.Common.{◌≡◌, length, map}
use Rattle.std.specs.Prelude.{◌↔◌}
use Rattle.std.specs.List.{AllByRecursion}
use Rattle.kt_sql_tables.specs.Old.{IsOldRow, old_given}
use Rattle.kt_sql_tables.proofs.old.are_old_rows.Given as goal

abbrev pub invariant-loop-row : goal.invariant-loop-row
invariant-loop-row l =
    (AllByRecursion IsOldRow l.nodes × (l.rows ≡ map old_given l.nodes)) ↔ (AllByRecursion IsOldRow l.left × (l.rest ≡ map old_given l.left))

abbrev pub decreases-loop-row : goal.decreases-loop-row
decreases-loop-row l = length l.rest
