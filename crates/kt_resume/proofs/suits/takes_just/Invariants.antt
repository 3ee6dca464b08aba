use Rattle.std.proofs.Common.{◌++◌, take, IsPermutation}
use Rattle.kt_resume.proofs.suits.takes_just.Given as goal

-- the bag had the tuples that were looked at, and what is left
abbrev pub invariant-loop-tuple : goal.invariant-loop-tuple
invariant-loop-tuple l = IsPermutation l.initial.left.tuples (take l.tuple-index l.tuples ++ l.left.tuples)
