-- What kind of value a value is.
-- Cited by Homes, specs/Matching, specs/Signature, value.rt; other crates.
use Rattle.kt_tuple.specs.declared.value.Value.{Value}
use Rattle.kt_tuple.specs.declared.value.Value.TheVariants.{Int, Str, Bool as Truth}
use Rattle.kt_tuple.specs.declared.value.Kind.{Kind}
use Rattle.kt_tuple.specs.declared.value.Kind.TheVariants as kinds

abbrev pub kind_of : Value → Kind
kind_of (Int n) = kinds.Int
kind_of (Str s) = kinds.Str
kind_of (Truth b) = kinds.Bool
