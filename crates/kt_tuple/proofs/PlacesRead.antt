-- The text of a place is read as that place.
-- Cited by Texts, `laws::a_front_spelled_is_read`.
use Rattle.std.proofs.Common.{◌≡◌, ℕ, true, false, eqb, List, ◌∷◌, ◌++◌, Some, Ok, refl, ap, ◌∙◌}
use Rattle.std.specs.Option.{option_map}
use Rattle.kt_tuple.specs.declared.value.Value.{Value}
use Rattle.kt_tuple.specs.declared.value.Value.TheVariants.{Int, Str, Bool as Truth}
use Rattle.kt_tuple.specs.declared.value.Kind.{Kind}
use Rattle.kt_tuple.specs.declared.value.Kind.TheVariants as kinds
use Rattle.kt_tuple.specs.declared.template.Place.{Place}
use Rattle.kt_tuple.specs.declared.template.Place.TheVariants.{Actual, Formal}
use Rattle.kt_tuple.specs.Valid.{IsValue, IsPlace}
use Rattle.kt_tuple.specs.Spelling.{value_text, kind_text, place_text}
use Rattle.kt_tuple.specs.Reading.{begins_with_digit, formal_at, value_at, place_at, place_of, has_range, is_short}
use Rattle.kt_tuple.proofs.IntLaws.{split_front, int_first}
use Rattle.kt_tuple.proofs.IntsRead.{signed_decimal_is_int}
use Rattle.kt_tuple.proofs.ValuesRead.{value_at_text, value_of_text, has_range_text, is_short_text}
use Rattle.kt_tuple.proofs.PlaceLaws.{place_of_plain, place_of_formal}

-- the first byte of a value's text is no question mark
text_first : (v : Value) → IsValue v → (c : ℕ) × (cs : List ℕ) × (value_text v ≡ c ∷ cs) × (eqb c 63 ≡ false)
text_first (Int n) h = let f = int_first (value_text (Int n)) (signed_decimal_is_int n h) in (f.0, f.1, f.2, f.4)
text_first (Str s) h = (34, _, refl, refl)
text_first (Truth true) h = (116, _, refl, refl)
text_first (Truth false) h = (102, _, refl, refl)

place_at_plain : (p cs rest : List ℕ) (c : ℕ) → p ≡ c ∷ cs → eqb c 63 ≡ false → place_at (p ++ rest) ≡ value_at (p ++ rest)
unfolding place_at
place_at_plain p cs rest c is no_mark = rw (is, no_mark) refl

place_at_formal : (k : Kind) (rest : List ℕ) → place_at ((63 ∷ kind_text k) ++ rest) ≡ Ok (63 ∷ kind_text k, rest)
unfolding place_at formal_at
place_at_formal kinds.Int rest = ap (λ (x : List ℕ × List ℕ). Ok x) (split_front (63 ∷ kind_text kinds.Int) rest)
place_at_formal kinds.Str rest = ap (λ (x : List ℕ × List ℕ). Ok x) (split_front (63 ∷ kind_text kinds.Str) rest)
place_at_formal kinds.Bool rest = ap (λ (x : List ℕ × List ℕ). Ok x) (split_front (63 ∷ kind_text kinds.Bool) rest)

-- the text of a place is read up to its end
pub place_at_text : (q : Place) (rest : List ℕ) → IsPlace q → begins_with_digit rest ≡ false → place_at (place_text q ++ rest) ≡ Ok (place_text q, rest)
place_at_text (Actual v) rest h end =
    let f = text_first v h in
    place_at_plain (value_text v) f.1 rest f.0 f.2 f.3 ∙ value_at_text v rest h end
place_at_text (Formal k) rest h end = place_at_formal k rest

-- its place is the place
pub place_of_text : (q : Place) → IsPlace q → place_of (place_text q) ≡ Some q
place_of_text (Actual v) h =
    let f = text_first v h in
    place_of_plain (value_text v) f.1 f.0 f.2 f.3 ∙ ap (option_map (λ w. Actual w)) (value_of_text v h)
place_of_text (Formal k) h = place_of_formal k

has_range_formal : (k : Kind) → has_range (63 ∷ kind_text k) ≡ true
unfolding has_range
has_range_formal k = refl

-- it is in range
pub has_range_place : (q : Place) → IsPlace q → has_range (place_text q) ≡ true
has_range_place (Actual v) h = has_range_text v h
has_range_place (Formal k) h = has_range_formal k

is_short_formal : (k : Kind) → is_short (63 ∷ kind_text k) ≡ true
unfolding is_short
is_short_formal k = refl

-- and short
pub is_short_place : (q : Place) → IsPlace q → is_short (place_text q) ≡ true
is_short_place (Actual v) h = is_short_text v h
is_short_place (Formal k) h = is_short_formal k
