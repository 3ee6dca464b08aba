use Rattle.std.proofs.Common.{◌≡◌, ◌+◌, length, take}
use Rattle.kt_space.specs.auxiliary.Slots.{filled}
use Rattle.kt_space.proofs.bag.nth_tuple.Given as goal

abbrev pub invariant-loop-slot : goal.invariant-loop-slot
invariant-loop-slot l = length (filled (take l.slot-index l.slots)) + l.before ≡ l.number
