use Rattle.std.proofs.Common.{◌≡◌, map, take}
use Rattle.kt_tuple.specs.declared.template.Place.TheVariants.{Actual}
use Rattle.kt_tuple.proofs.template.actuals.Given as goal

abbrev pub invariant-loop-value : goal.invariant-loop-value
invariant-loop-value l = l.places.items ≡ map Actual (take l.value-index l.values)
