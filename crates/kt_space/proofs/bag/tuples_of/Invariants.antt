use Rattle.std.proofs.Common.{◌≡◌, take}
use Rattle.kt_space.specs.auxiliary.Slots.{filled}
use Rattle.kt_space.proofs.bag.tuples_of.Given as goal

abbrev pub invariant-loop-slot : goal.invariant-loop-slot
invariant-loop-slot l = l.tuples.items ≡ filled (take l.slot-index l.slots)
