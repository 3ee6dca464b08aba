use Rattle.std.proofs.Common.{◌≡◌, take}
use Rattle.kt_script.specs.Meaning.{template_of}
use Rattle.kt_script.specs.auxiliary.Scope.{meaning_in}
use Rattle.kt_script.proofs.meaning.Scope.places_of.Given as goal

abbrev pub invariant-loop-slot : goal.invariant-loop-slot
invariant-loop-slot l = l.places.items ≡ template_of (meaning_in l.self) (take l.slot-index l.slots)
