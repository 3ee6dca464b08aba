-- What of a key goes into its hash.
-- Cited by key.rt.
use Rattle.std.specs.Prelude.{ℕ, List, [], ◌++◌, Option, Some, None}
use Rattle.std.specs.Hash as fed
use Rattle.kt_tuple.specs.declared.value.Value.{Value}
use Rattle.kt_tuple.specs.declared.value.Value.TheVariants.{Int, Str, Bool as Truth}
use Rattle.kt_space.specs.declared.key.Key.{Key}

abbrev pub first_input : Option Value → List (List ℕ)
first_input None = []
first_input (Some (Int n)) = fed.i64 n
first_input (Some (Str s)) = fed.slice fed.u8 s
first_input (Some (Truth b)) = fed.bool b

abbrev pub key_input : Key → List (List ℕ)
key_input k = fed.u64 k.signature ++ first_input k.first
