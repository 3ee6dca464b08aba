-- Values and places in bytes: a code for the kind, and what is behind it.
-- Cited by OldFields, Values, specs/OldParts, specs/State, specs/Tuple, tuple.rt, value.rt, `tuple::push_places`,
--   `tuple::push_values`.
use Rattle.std.specs.Prelude.{ℕ, ◌==◌, if◌then◌else◌, List, [], ◌∷◌, length, Result, Ok, Err}
use Rattle.std.specs.List.{list_all}
use Rattle.std.specs.Int.{w64, to_be_bytes, cast_signed, cast_unsigned}
use Rattle.kt_tuple.specs.declared.value.Value.{Value}
use Rattle.kt_tuple.specs.declared.value.Value.TheVariants.{Int, Str, Bool as Truth}
use Rattle.kt_tuple.specs.declared.value.Kind.TheVariants as kinds
use Rattle.kt_tuple.specs.declared.template.Place.{Place}
use Rattle.kt_tuple.specs.declared.template.Place.TheVariants.{Actual, Formal}
use Rattle.kt_tuple.specs.Reading.{is_printable}
use Rattle.kt_ckpt.specs.declared.error.CkptError.{CkptError}
use Rattle.kt_ckpt.specs.declared.error.CkptError.TheVariants.{Field}
use Rattle.kt_ckpt.specs.Limits.{int_code, str_code, bool_code, int_formal_code, str_formal_code, bool_formal_code}
use Rattle.kt_tuple.specs.declared.string.TheConstants.{MAX_CHARACTERS}
use Rattle.kt_ckpt.specs.Reading.{◌>>=◌, made, byte_at, bytes_at, byte_within, number_at}
use Rattle.kt_ckpt.specs.Flag.{flag_bytes, flag_at}

abbrev pub value_code : Value → ℕ
value_code (Int n) = int_code
value_code (Str cs) = str_code
value_code (Truth b) = bool_code

-- behind its code: an int in two's complement; a str's length and its characters; a bool in one byte
abbrev pub behind_value_code : Value → List ℕ
behind_value_code (Int n) = to_be_bytes w64 (cast_unsigned w64 n)
behind_value_code (Str cs) = length cs ∷ cs
behind_value_code (Truth b) = flag_bytes b

abbrev pub value_bytes : Value → List ℕ
value_bytes v = value_code v ∷ behind_value_code v

abbrev pub place_code : Place → ℕ
place_code (Actual v) = value_code v
place_code (Formal kinds.Int) = int_formal_code
place_code (Formal kinds.Str) = str_formal_code
place_code (Formal kinds.Bool) = bool_formal_code

-- behind its code: an actual's value; nothing of a formal
abbrev pub behind_place_code : Place → List ℕ
behind_place_code (Actual v) = behind_value_code v
behind_place_code (Formal k) = []

abbrev pub place_bytes : Place → List ℕ
place_bytes p = place_code p ∷ behind_place_code p

-- an int behind its code
unfoldable pub int_at : List ℕ → Result (Value × List ℕ) CkptError
int_at bytes = made (λ n. Int (cast_signed w64 n)) (number_at w64 bytes)

-- the str of characters that were read
abbrev pub printed : List ℕ → List ℕ → Result (Value × List ℕ) CkptError
printed cs rest = if list_all is_printable cs then Ok (Str cs, rest) else Err Field

-- a str behind its code
unfoldable pub str_at : List ℕ → Result (Value × List ℕ) CkptError
str_at bytes = do
  n ← byte_within 0 MAX_CHARACTERS bytes
  cs ← bytes_at n.0 n.1
  printed cs.0 cs.1

-- a bool behind its code
unfoldable pub bool_at : List ℕ → Result (Value × List ℕ) CkptError
bool_at bytes = made Truth (flag_at bytes)

-- a value behind this code
unfoldable pub value_behind : ℕ → List ℕ → Result (Value × List ℕ) CkptError
value_behind code bytes =
    if code == int_code then int_at bytes
    else if code == str_code then str_at bytes
    else if code == bool_code then bool_at bytes
    else Err Field

unfoldable pub value_at : List ℕ → Result (Value × List ℕ) CkptError
value_at bytes = do
  code ← byte_at bytes
  value_behind code.0 code.1

-- a place behind this code
unfoldable pub place_behind : ℕ → List ℕ → Result (Place × List ℕ) CkptError
place_behind code bytes =
    if code == int_formal_code then Ok (Formal kinds.Int, bytes)
    else if code == str_formal_code then Ok (Formal kinds.Str, bytes)
    else if code == bool_formal_code then Ok (Formal kinds.Bool, bytes)
    else made Actual (value_behind code bytes)

unfoldable pub place_at : List ℕ → Result (Place × List ℕ) CkptError
place_at bytes = do
  code ← byte_at bytes
  place_behind code.0 code.1
