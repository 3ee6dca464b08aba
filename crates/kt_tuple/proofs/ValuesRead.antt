-- The text of a value is read as that value.
-- Cited by PlacesRead, Texts, `laws::a_front_spelled_is_read`; other crates.
use Rattle.std.proofs.Common.{◌≡◌, ℕ, Bool, true, false, List, [], ◌∷◌, ◌++◌, length, Some, Ok, refl, sym, ap, ◌∙◌, append_assoc}
use Rattle.std.proofs.lemmas.Bool.{le-leb}
use Rattle.std.specs.Prelude.{nat_le, is_some}
use Rattle.std.specs.List.{flat_map}
use Rattle.std.specs.Option.{option_map}
use Rattle.kt_tuple.specs.declared.string.TheConstants.{MAX_CHARACTERS}
use Rattle.kt_tuple.specs.declared.value.Value.{Value}
use Rattle.kt_tuple.specs.declared.value.Value.TheVariants.{Int, Str, Bool as Truth}
use Rattle.kt_tuple.specs.Text.{IsText}
use Rattle.kt_tuple.specs.Valid.{IsValue}
use Rattle.kt_tuple.specs.Spelling.{character_text, string_text, value_text}
use Rattle.kt_tuple.specs.Reading.{begins_with_digit, int_at, after_characters, str_at, value_at}
use Rattle.kt_tuple.specs.Reading.{unescaped, characters_of, str_of, value_of, has_range, is_short}
use Rattle.kt_tuple.proofs.IntLaws.{split_front, BeginsAsInt, int_first, IsInt}
use Rattle.kt_tuple.proofs.IntsRead.{signed_decimal_is_int, int_at_int, int_of_decimal}
use Rattle.kt_tuple.proofs.Strings.{str_of_text, all_printable}
use Rattle.kt_tuple.proofs.StrsRead.{characters_read, unescaped_text}
use Rattle.kt_tuple.proofs.ValueLaws.{between, value_of_int, value_of_truth, has_range_plain}

value_at_plain : (p rest : List ℕ) → BeginsAsInt p → value_at (p ++ rest) ≡ int_at (p ++ rest)
unfolding value_at
value_at_plain p rest (c, cs, is, no_quote, no_mark, no_t, no_f) = rw (is, no_quote, no_t, no_f) refl

value_at_int : (p rest : List ℕ) → IsInt p → begins_with_digit rest ≡ false → value_at (p ++ rest) ≡ Ok (p, rest)
value_at_int p rest h end = value_at_plain p rest (int_first p h) ∙ int_at_int p rest h end

value_at_str : (s rest : List ℕ) → IsText s → value_at (string_text s ++ rest) ≡ Ok (string_text s, rest)
unfolding value_at str_at
value_at_str s rest h =
    let body = flat_map character_text s in
    let closed : after_characters false ((body ++ 34 ∷ []) ++ rest) ≡ Ok rest =
    rw (append_assoc body (34 ∷ []) rest) (characters_read s rest (all_printable s h.1)) in
    rw closed (ap (λ (x : List ℕ × List ℕ). Ok x) (split_front (string_text s) rest))

value_at_truth : (b : Bool) (rest : List ℕ) → value_at (value_text (Truth b) ++ rest) ≡ Ok (value_text (Truth b), rest)
unfolding value_at
value_at_truth true rest = ap (λ (x : List ℕ × List ℕ). Ok x) (split_front (value_text (Truth true)) rest)
value_at_truth false rest = ap (λ (x : List ℕ × List ℕ). Ok x) (split_front (value_text (Truth false)) rest)

-- the text of a value is read up to its end
pub value_at_text : (v : Value) (rest : List ℕ) → IsValue v → begins_with_digit rest ≡ false → value_at (value_text v ++ rest) ≡ Ok (value_text v, rest)
value_at_text (Int n) rest h end = value_at_int (value_text (Int n)) rest (signed_decimal_is_int n h) end
value_at_text (Str s) rest h end = value_at_str s rest h
value_at_text (Truth b) rest h end = value_at_truth b rest

characters_of_text : (s : List ℕ) → characters_of (string_text s) ≡ s
characters_of_text s = ap (unescaped false) (between (flat_map character_text s)) ∙ unescaped_text s

value_of_string : (s : List ℕ) → IsText s → value_of (string_text s) ≡ Some (Str s)
unfolding value_of
value_of_string s h = ap str_of (characters_of_text s) ∙ sym (str_of_text s h)

-- its value is the value
pub value_of_text : (v : Value) → IsValue v → value_of (value_text v) ≡ Some v
value_of_text (Int n) h = value_of_int (value_text (Int n)) (signed_decimal_is_int n h) ∙ ap (option_map (λ z. Int z)) (int_of_decimal n h)
value_of_text (Str s) h = value_of_string s h
value_of_text (Truth b) h = value_of_truth b

has_range_string : (s : List ℕ) → has_range (string_text s) ≡ true
unfolding has_range
has_range_string s = refl

has_range_truth : (b : Bool) → has_range (value_text (Truth b)) ≡ true
unfolding has_range
has_range_truth true = refl
has_range_truth false = refl

-- it is in range
pub has_range_text : (v : Value) → IsValue v → has_range (value_text v) ≡ true
has_range_text (Int n) h =
    has_range_plain (value_text (Int n)) (int_first (value_text (Int n)) (signed_decimal_is_int n h)) ∙ ap is_some (int_of_decimal n h)
has_range_text (Str s) h = has_range_string s
has_range_text (Truth b) h = has_range_truth b

is_short_plain : (p : List ℕ) → BeginsAsInt p → is_short p ≡ true
unfolding is_short
is_short_plain p (c, cs, is, no_quote, no_mark, no_t, no_f) = rw (is, no_quote) refl

is_short_string : (s : List ℕ) → IsText s → is_short (string_text s) ≡ true
unfolding is_short
is_short_string s h = ap (λ (t : List ℕ). nat_le (length t) MAX_CHARACTERS) (characters_of_text s) ∙ le-leb (length s) MAX_CHARACTERS h.0

is_short_truth : (b : Bool) → is_short (value_text (Truth b)) ≡ true
unfolding is_short
is_short_truth true = refl
is_short_truth false = refl

-- and short
pub is_short_text : (v : Value) → IsValue v → is_short (value_text v) ≡ true
is_short_text (Int n) h = is_short_plain (value_text (Int n)) (int_first (value_text (Int n)) (signed_decimal_is_int n h))
is_short_text (Str s) h = is_short_string s h
is_short_text (Truth b) h = is_short_truth b
