use Rattle.std.proofs.Common.{length}
use Rattle.kt_space.specs.auxiliary.Slots.{IsPassed}
use Rattle.kt_space.proofs.Searched.{to_come}
use Rattle.kt_space.proofs.search.among.Given as goal

abbrev pub invariant-loop-next : goal.invariant-loop-next
invariant-loop-next l = IsPassed l.slots l.groups.keys l.key l.template l.number l.next l.left l.compared

abbrev pub decreases-loop-next : goal.decreases-loop-next
decreases-loop-next l = to_come (length l.slots) l.next
