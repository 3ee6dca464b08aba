use Rattle.std.proofs.Common.{◌≡◌, ◌++◌, take}
use Rattle.kt_state.proofs.loading.put_copies.Given as goal

abbrev pub invariant-loop-tuple : goal.invariant-loop-tuple
invariant-loop-tuple l = l.bag.tuples ≡ l.fn.bag.tuples ++ take l.tuple-index l.tuples
