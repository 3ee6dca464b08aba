use Rattle.std.proofs.Common.{◌≡◌, take, map}
use Rattle.kt_script.specs.Meaning.{value_of_actual}
use Rattle.kt_script.specs.auxiliary.Scope.{meaning_in}
use Rattle.kt_script.proofs.meaning.Scope.values_of.Given as goal

abbrev pub invariant-loop-actual : goal.invariant-loop-actual
invariant-loop-actual l = l.copies.items ≡ map (value_of_actual (meaning_in l.self)) (take l.actual-index l.actuals)
