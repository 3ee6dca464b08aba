use Rattle.std.proofs.Common.{length}
use Rattle.std.specs.Prelude.{◌↔◌}
use Rattle.kt_sql_tables.specs.auxiliary.Testing.{AreRowsFrom}
use Rattle.kt_sql_tables.proofs.opened.are_said.Given as goal

abbrev pub invariant-loop-row : goal.invariant-loop-row
invariant-loop-row g l = AreRowsFrom g.R.Record.given g.R.Record.is_said 0 l.rows ↔ AreRowsFrom g.R.Record.given g.R.Record.is_said l.low l.rest

abbrev pub decreases-loop-row : goal.decreases-loop-row
decreases-loop-row g l = length l.rest
