use Rattle.std.proofs.Common.{◌≡◌, take}
use Rattle.kt_space.specs.auxiliary.Slots.{filled}
use Rattle.kt_space.proofs.bag.copy_of.Given as goal

abbrev pub invariant-loop-slot : goal.invariant-loop-slot
invariant-loop-slot l = l.bag.tuples ≡ filled (take l.slot-index l.slots)
