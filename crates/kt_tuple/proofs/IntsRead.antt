-- The decimal of an int is read as that int.
-- Cited by PlacesRead, ValuesRead; other crates.
use Rattle.std.proofs.Common.{◌≡◌, ℕ, zero, suc, ◌^◌, ◌<◌, ◌≤◌, true, false, eqb, ltb, leb, List, [], ◌∷◌, ◌++◌, length, get_or, Some, Ok, refl, ap, ◌∙◌, arith}
use Rattle.std.proofs.lemmas.Bool.{ne_eqb, le-leb, lt-ltb, and_parts, and_from}
use Rattle.std.specs.Prelude.{ℤ, pos, negsuc, decimal}
use Rattle.std.specs.Fmt.{signed_decimal}
use Rattle.std.specs.Int.{w64, is_in_range}
use Rattle.std.specs.Int.RustNames.{FitsSigned}
use Rattle.std.specs.Char.{is_ascii_digit}
use Rattle.std.specs.Str.{all_ascii_digits}
use Rattle.std.specs.Str.Parse.{signed_digits_value, without_leading_sign}
use Rattle.std.proofs.lemmas.Fmt.{decimal_digit, decimal_nonempty, first_decimal, digits_decimal, digits_value-decimal}
use lib.IntN.{neg_ℤ}
use lib.Signed.{mag}
use Rattle.kt_tuple.specs.Reading.{after_digits, after_positive, begins_with_digit, int_at, is_numeral, is_i64, int_of}
use Rattle.kt_tuple.proofs.IntLaws.{split_front, own, no_sign, IsPositive, IsInt, just_zero, positive, negative}

pub positive_decimal : (n : ℕ) → 0 < n → n < 2 ^ 64 → IsPositive (decimal n)
positive_decimal n some small = record {
  some = decimal_nonempty n small;
  first = omega (arith, first_decimal n some small);
  digits = digits_decimal own n small;
}

-- each int is spelled as one
pub signed_decimal_is_int : (z : ℤ) → FitsSigned w64 z → IsInt (signed_decimal z)
signed_decimal_is_int (pos zero) h = rw (decimal_digit 0 (omega arith)) just_zero
signed_decimal_is_int (pos (suc n)) h =
    let small : suc n < 2 ^ 63 = h.sfits in
    positive (positive_decimal (suc n) (omega arith) (omega (arith, small)))
signed_decimal_is_int (negsuc n) h =
    let small : n < 2 ^ 63 = h.sfits in
    negative (positive_decimal (suc n) (omega arith) (omega (arith, small)))

after_digits_all : (ds rest : List ℕ) → all_ascii_digits ds ≡ true → begins_with_digit rest ≡ false → after_digits (ds ++ rest) ≡ rest
after_digits_all [] [] digits end = refl
after_digits_all [] (c ∷ cs) digits end = rw end refl
after_digits_all (c ∷ ds) rest digits end =
    let parts = and_parts (is_ascii_digit c) (all_ascii_digits ds) digits in
    rw parts.0 (after_digits_all ds rest parts.1 end)

after_positive_all : (ds rest : List ℕ) → IsPositive ds → begins_with_digit rest ≡ false → after_positive (ds ++ rest) ≡ Ok rest
after_positive_all [] rest h end = absurd (omega (arith, h.some))
after_positive_all (c ∷ ds) rest h end =
    let parts = and_parts (is_ascii_digit c) (all_ascii_digits ds) h.digits in
    let bounds = and_parts (leb 48 c) (leb c 57) parts.0 in
    let range : is_in_range 49 57 c ≡ true = and_from (leb 49 c) (leb c 57) (le-leb 49 c h.first) bounds.1 in
    rw range (ap (λ (t : List ℕ). Ok t) (after_digits_all ds rest parts.1 end))

positive_at : (ds rest : List ℕ) → IsPositive ds → begins_with_digit rest ≡ false → int_at (ds ++ rest) ≡ Ok (ds, rest)
unfolding int_at
positive_at [] rest h end = absurd (omega (arith, h.some))
positive_at (c ∷ ds) rest h end =
    let no_zero : eqb c 48 ≡ false = ne_eqb c 48 (λ e. omega (arith, h.first, e)) in
    let no_minus : eqb c 45 ≡ false = ne_eqb c 45 (λ e. omega (arith, h.first, e)) in
    rw (no_zero, no_minus, after_positive_all (c ∷ ds) rest h end) (ap (λ (x : List ℕ × List ℕ). Ok x) (split_front (c ∷ ds) rest))

-- an int is read up to its last digit
pub int_at_int : (p rest : List ℕ) → IsInt p → begins_with_digit rest ≡ false → int_at (p ++ rest) ≡ Ok (p, rest)
unfolding int_at
int_at_int p rest just_zero end = refl
int_at_int p rest (positive h) end = positive_at p rest h end
int_at_int p rest (negative {ds} h) end = rw (after_positive_all ds rest h end) (ap (λ (x : List ℕ × List ℕ). Ok x) (split_front (45 ∷ ds) rest))

without_sign : (ds : List ℕ) → 49 ≤ get_or ds 0 0 → without_leading_sign ds ≡ ds
without_sign ds first =
    let no_minus : eqb (get_or ds 0 0) 45 ≡ false = ne_eqb (get_or ds 0 0) 45 (λ e. omega (arith, first, e)) in
    let no_plus : eqb (get_or ds 0 0) 43 ≡ false = ne_eqb (get_or ds 0 0) 43 (λ e. omega (arith, first, e)) in
    rw (no_minus, no_plus) refl

is_numeral_positive : (ds : List ℕ) → IsPositive ds → is_numeral ds ≡ true
is_numeral_positive ds h = and_from (ltb 0 (length ds)) (all_ascii_digits ds) (lt-ltb 0 (length ds) h.some) h.digits

int_of_value : (p : List ℕ) (z : ℤ) → is_numeral (without_leading_sign p) ≡ true → signed_digits_value 10 p ≡ z → mag z < 2 ^ 63 → int_of p ≡ Some z
unfolding int_of
int_of_value p z numeral value small =
    let fits : is_i64 z ≡ true = lt-ltb (mag z) (2 ^ 63) small in
    rw (numeral, value, fits) refl

-- the number of an int's text is the int
pub int_of_decimal : (z : ℤ) → FitsSigned w64 z → int_of (signed_decimal z) ≡ Some z
unfolding int_of
int_of_decimal (pos zero) h = rw (decimal_digit 0 (omega arith)) refl
int_of_decimal (pos (suc n)) h =
    let small : suc n < 2 ^ 63 = h.sfits in
    let ds = decimal (suc n) in
    let is = positive_decimal (suc n) (omega arith) (omega (arith, small)) in
    int_of_value ds (pos (suc n)) (rw (without_sign ds is.first) (is_numeral_positive ds is))
    (no_sign ds is.first ∙ ap pos (digits_value-decimal own (suc n) (omega (arith, small)))) small
int_of_decimal (negsuc n) h =
    let small : n < 2 ^ 63 = h.sfits in
    let ds = decimal (suc n) in
    let is = positive_decimal (suc n) (omega arith) (omega (arith, small)) in
    int_of_value (45 ∷ ds) (negsuc n) (is_numeral_positive ds is)
    (ap (λ k. neg_ℤ (pos k)) (digits_value-decimal own (suc n) (omega (arith, small)))) small
