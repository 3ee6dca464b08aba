use Rattle.std.proofs.Common.{take}
use Rattle.kt_history.proofs.MarkSteps.{UnmarkedUpTo}
use Rattle.kt_history.proofs.mark.unmark.Given as goal

abbrev pub invariant-loop-number : goal.invariant-loop-number
invariant-loop-number l = UnmarkedUpTo (take l.number-index l.numbers) l.initial.marks l.marks
