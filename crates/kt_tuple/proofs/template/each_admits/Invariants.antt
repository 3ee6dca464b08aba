use Rattle.std.proofs.Common.{◌≡◌, ◌≤◌, length, take}
use Rattle.kt_tuple.specs.Matching.{matches}
use Rattle.kt_tuple.proofs.template.each_admits.Given as goal

-- the places that are left decide
abbrev pub invariant-loop-left : goal.invariant-loop-left
invariant-loop-left l = (l.left ≤ length l.places) × (matches l.places l.values ≡ matches (take l.left l.places) (take l.left l.values))

abbrev pub decreases-loop-left : goal.decreases-loop-left
decreases-loop-left l = l.left
