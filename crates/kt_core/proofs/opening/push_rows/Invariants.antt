use Rattle.std.proofs.Common.{◌≡◌, map}
use Rattle.kt_core.specs.auxiliary.Rows.{row_view}
use Rattle.kt_model.specs.Reached.{opening_rows}
use Rattle.kt_core.proofs.opening.push_rows.Given as goal

abbrev pub invariant-loop-number : goal.invariant-loop-number
invariant-loop-number l = map row_view l.nodes.items ≡ opening_rows l.scene l.number
