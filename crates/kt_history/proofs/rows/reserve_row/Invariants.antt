use Rattle.std.proofs.Common.{◌+◌, ◌-◌, vec_len}
use Rattle.kt_history.specs.auxiliary.Marks.{SameRows}
use Rattle.kt_history.proofs.rows.reserve_row.Given as goal

abbrev pub invariant-grow : goal.invariant-grow
invariant-grow l = SameRows l.initial.rows l.rows

abbrev pub decreases-grow : goal.decreases-grow
decreases-grow l = l.place + 1 - vec_len l.rows
