use Rattle.std.proofs.Common.{◌≡◌, take}
use Rattle.kt_tuple.proofs.copying.copy_tuples.Given as goal

abbrev pub invariant-loop-tuple : goal.invariant-loop-tuple
invariant-loop-tuple l = l.copies.items ≡ take l.tuple-index l.tuples
