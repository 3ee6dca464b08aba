-- Which values and places a program can hold. In the definitions an int is any number, and a str any characters.
-- Cited by PlaceLaws, PlacesRead, Texts, ValueLaws, ValuesRead, laws.rt, writing.rt, `Template::write_to`,
--   `Tuple::write_to`; other crates.
use Rattle.std.specs.Int.{w64}
use Rattle.std.specs.Int.RustNames.{FitsSigned}
use Rattle.kt_tuple.specs.declared.value.Value.{Value}
use Rattle.kt_tuple.specs.declared.value.Value.TheVariants.{Int, Str, Bool as Truth}
use Rattle.kt_tuple.specs.declared.template.Place.{Place}
use Rattle.kt_tuple.specs.declared.template.Place.TheVariants.{Actual, Formal}
use Rattle.kt_tuple.specs.Text.{IsText}

-- an int of 64 bits, a str of at most `MAX_CHARACTERS` printable characters, or a bool
abbrev pub IsValue : Value → Type 0
IsValue (Int n) = FitsSigned w64 n
IsValue (Str s) = IsText s
IsValue (Truth b) = Unit

-- an actual is such a value, a formal any kind
abbrev pub IsPlace : Place → Type 0
IsPlace (Actual v) = IsValue v
IsPlace (Formal k) = Unit
