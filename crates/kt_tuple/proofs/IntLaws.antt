-- An int that is read is spelled as its number is, and each number's spelling is read.
-- Cited by FormalShapes, IntShapes, Ints, IntsRead, Outside, PlaceLaws, PlacesRead, Shapes, StrShapes, ValueLaws,
--   ValuesRead, WordShapes; other crates.
use Rattle.std.proofs.Common.{◌≡◌, ℕ, zero, suc, ◌-◌, ◌^◌, ◌<◌, ◌≤◌, Bool, true, false, cond, ◌&&◌, eqb, leb, List, [], ◌∷◌, ◌++◌}
use Rattle.std.proofs.Common.{length, get_or, drop, Some, None, Result, Ok, Err, refl, sym, ap, subst, ◌∙◌, arith, length-append}
use Rattle.std.proofs.lemmas.List.{take_at, drop_at}
use Rattle.std.proofs.lemmas.Bool.{ne_eqb, eqb-true, ltb-true, leb-true, le-leb, and_parts}
use Rattle.std.specs.Cmp.Derive.{both_true}
use Rattle.std.specs.Prelude.{ℤ, pos, decimal}
use Rattle.std.specs.Fmt.{signed_decimal}
use Rattle.std.specs.Int.{is_in_range}
use Rattle.std.specs.Char.{is_ascii_digit}
use Rattle.std.specs.Str.{all_ascii_digits}
use Rattle.std.specs.Str.Parse.{digits_value, signed_digits_value, without_leading_sign}
use Rattle.std.proofs.lemmas.Fmt.{decimal-digits_value, decimal_digit}
use lib.IntN.{neg_ℤ}
use Rattle.std.proofs.lemmas.Str.Parse.{IsNumeralModel, numerals_by_value, tells_all_ascii_digits}
use lib.Signed.{mag}
use Rattle.kt_tuple.specs.Reading.{after_digits, after_positive, split_before, up_to, int_at, is_i64, is_numeral, int_of}

-- what a reader took from the front
pub record Takes (text front rest : List ℕ) : Type 0 where
  pub parts : text ≡ front ++ rest

pub split_front : (front rest : List ℕ) → split_before (front ++ rest) rest ≡ (front, rest)
split_front front rest =
    let k : length (front ++ rest) - length rest ≡ length front = omega (arith, length-append front rest) in
    rw k (ap (λ (t : List ℕ). (t, drop (length front) (front ++ rest))) (take_at front rest (length front) refl)
    ∙ ap (λ (t : List ℕ). (front, t)) (drop_at front rest (length front) refl))

digits_cons : (b : Bool) (c : ℕ) (cs : List ℕ) → is_ascii_digit c ≡ b
    → (ds : List ℕ) × (cs ≡ ds ++ after_digits cs) × (all_ascii_digits ds ≡ true)
    → (ds : List ℕ) × (c ∷ cs ≡ ds ++ cond b (after_digits cs) (c ∷ cs)) × (all_ascii_digits ds ≡ true)
digits_cons true c cs e (ds, parts, digits) = (c ∷ ds, ap (λ (t : List ℕ). c ∷ t) parts, rw e digits)
digits_cons false c cs e h = ([], refl, refl)

-- the digits in front, and what comes after them
pub digits_front : (text : List ℕ) → (ds : List ℕ) × (text ≡ ds ++ after_digits text) × (all_ascii_digits ds ≡ true)
digits_front [] = ([], refl, refl)
digits_front (c ∷ cs) = digits_cons (is_ascii_digit c) c cs refl (digits_front cs)

-- digits of which the first is not 0
pub record IsPositive (ds : List ℕ) : Type 0 where
  pub some : 0 < length ds
  pub first : 49 ≤ get_or ds 0 0
  pub digits : all_ascii_digits ds ≡ true

-- 0, or a minus sign or none and digits of which the first is not 0
pub data IsInt : List ℕ → Type 0 where
  just_zero : IsInt (48 ∷ [])
  positive : {ds : List ℕ} → IsPositive ds → IsInt ds
  negative : {ds : List ℕ} → IsPositive ds → IsInt (45 ∷ ds)

digit_from_positive : (c : ℕ) → 49 ≤ c → c ≤ 57 → is_ascii_digit c ≡ true
digit_from_positive c low high = both_true (le-leb 48 c (omega arith)) (le-leb c 57 high)

positive_by_test : (b : Bool) (c : ℕ) (cs rest : List ℕ) → is_in_range 49 57 c ≡ b → (ds : List ℕ) × (cs ≡ ds ++ after_digits cs) × (all_ascii_digits ds ≡ true)
    → cond b (Ok (after_digits cs)) (Err (c ∷ cs)) ≡ Ok rest → (ds : List ℕ) × (c ∷ cs ≡ ds ++ rest) × IsPositive ds
positive_by_test true c cs rest e (ds, parts, digits) read =
    let bounds = and_parts (leb 49 c) (leb c 57) e in
    let low = leb-true 49 c bounds.0 in
    let same : after_digits cs ≡ rest = cc in (
      c ∷ ds,
      ap (λ (t : List ℕ). c ∷ t) (parts ∙ ap (λ (t : List ℕ). ds ++ t) same),
      record {
        some = omega arith;
        first = low;
        digits = rw (digit_from_positive c low (leb-true c 57 bounds.1)) digits;
      },
    )
positive_by_test false c cs rest e h read = absurd cc

pub positive_read : (text rest : List ℕ) → after_positive text ≡ Ok rest → (ds : List ℕ) × (text ≡ ds ++ rest) × IsPositive ds
positive_read [] rest e = absurd cc
positive_read (c ∷ cs) rest e = positive_by_test (is_in_range 49 57 c) c cs rest refl (digits_front cs) e

pub up_to_ok : (text : List ℕ) (r : Result (List ℕ) (List ℕ)) (p rest : List ℕ) → up_to text r ≡ Ok (p, rest) → (after : List ℕ) × (r ≡ Ok after)
    × (split_before text after ≡ (p, rest))
up_to_ok text (Ok after) p rest e = (after, refl, cc)
up_to_ok text (Err e') p rest e = absurd cc

-- what a reader takes: the spelling, and the rest
pub parts_of : (text front after p rest : List ℕ) → text ≡ front ++ after → split_before text after ≡ (p, rest) → (front ≡ p) × (after ≡ rest)
parts_of text front after p rest parts split =
    let e : (front, after) ≡ (p, rest) = sym (split_front front after) ∙ ap (λ (t : List ℕ). split_before t after) (sym parts) ∙ split in
    (ap (λ (x : List ℕ × List ℕ). x.0) e, ap (λ (x : List ℕ × List ℕ). x.1) e)

int_by_sign : (b : Bool) (c : ℕ) (cs p rest : List ℕ) → eqb c 45 ≡ b → up_to (c ∷ cs) (after_positive (cond b cs (c ∷ cs))) ≡ Ok (p, rest)
    → (c ∷ cs ≡ p ++ rest) × IsInt p
int_by_sign true c cs p rest e read =
    let up = up_to_ok (c ∷ cs) (after_positive cs) p rest read in
    let ds = positive_read cs up.0 up.1 in
    let minus : c ≡ 45 = eqb-true c 45 e in
    let whole : c ∷ cs ≡ (45 ∷ ds.0) ++ up.0 = ap (λ k. k ∷ cs) minus ∙ ap (λ (t : List ℕ). 45 ∷ t) ds.1 in
    let same = parts_of (c ∷ cs) (45 ∷ ds.0) up.0 p rest whole up.2 in
    (whole ∙ ap (λ (t : List ℕ). t ++ up.0) same.0 ∙ ap (λ (t : List ℕ). p ++ t) same.1, subst IsInt same.0 (negative ds.2))
int_by_sign false c cs p rest e read =
    let up = up_to_ok (c ∷ cs) (after_positive (c ∷ cs)) p rest read in
    let ds = positive_read (c ∷ cs) up.0 up.1 in
    let same = parts_of (c ∷ cs) ds.0 up.0 p rest ds.1 up.2 in
    (ds.1 ∙ ap (λ (t : List ℕ). t ++ up.0) same.0 ∙ ap (λ (t : List ℕ). p ++ t) same.1, subst IsInt same.0 (positive ds.2))

int_by_zero : (b : Bool) (c : ℕ) (cs p rest : List ℕ) → eqb c 48 ≡ b
    → cond b (Ok (48 ∷ [], cs)) (up_to (c ∷ cs) (after_positive (cond (eqb c 45) cs (c ∷ cs)))) ≡ Ok (p, rest) → (c ∷ cs ≡ p ++ rest) × IsInt p
int_by_zero true c cs p rest e read =
    let digit : c ≡ 48 = eqb-true c 48 e in
    let same : (48 ∷ [], cs) ≡ (p, rest) = cc in
    let front : 48 ∷ [] ≡ p = ap (λ (x : List ℕ × List ℕ). x.0) same in
    let after : cs ≡ rest = ap (λ (x : List ℕ × List ℕ). x.1) same in
    (ap (λ k. k ∷ cs) digit ∙ ap (λ (t : List ℕ). 48 ∷ t) after ∙ ap (λ (t : List ℕ). t ++ rest) front, subst IsInt front just_zero)
int_by_zero false c cs p rest e read = int_by_sign (eqb c 45) c cs p rest refl read

-- what is read as an int is one, and stands in front of the rest
pub int_taken : (text p rest : List ℕ) → int_at text ≡ Ok (p, rest) → (text ≡ p ++ rest) × IsInt p
unfolding int_at
int_taken [] p rest e = absurd cc
int_taken (c ∷ cs) p rest e = int_by_zero (eqb c 48) c cs p rest refl e

-- the first byte is none that begins a place of another kind: no quote, no question mark, no `t` and no `f`
abbrev pub BeginsAsInt : List ℕ → Type 0
BeginsAsInt p = (c : ℕ) × (cs : List ℕ) × (p ≡ c ∷ cs) × (eqb c 34 ≡ false) × (eqb c 63 ≡ false) × (eqb c 116 ≡ false) × (eqb c 102 ≡ false)

-- the first byte of an int is a digit or a minus sign
positive_first : (ds : List ℕ) → IsPositive ds → BeginsAsInt ds
positive_first [] h = absurd (omega (arith, h.some))
positive_first (c ∷ cs) h =
    let parts = and_parts (is_ascii_digit c) (all_ascii_digits cs) h.digits in
    let high = leb-true c 57 (and_parts (leb 48 c) (leb c 57) parts.0).1 in (
      c,
      cs,
      refl,
      ne_eqb c 34 (λ e. omega (arith, h.first, e)),
      ne_eqb c 63 (λ e. omega (arith, high, e)),
      ne_eqb c 116 (λ e. omega (arith, high, e)),
      ne_eqb c 102 (λ e. omega (arith, high, e)),
    )

pub int_first : (p : List ℕ) → IsInt p → BeginsAsInt p
int_first p just_zero = (48, [], refl, refl, refl, refl, refl)
int_first p (positive h) = positive_first p h
int_first p (negative {ds} h) = (45, ds, refl, refl, refl, refl, refl)

pub own : IsNumeralModel (λ ds. all_ascii_digits ds ≡ true) (digits_value 10)
own = numerals_by_value _ tells_all_ascii_digits

-- digits that don't begin with 0 are the decimal of their value
decimal_back : (ds : List ℕ) → IsPositive ds → digits_value 10 ds < 2 ^ 64 → decimal (digits_value 10 ds) ≡ ds
decimal_back ds h below = decimal-digits_value own ds h.digits h.some (λ e. absurd (omega (arith, h.first, e))) below

negative_text : (n : ℕ) (ds : List ℕ) → decimal n ≡ ds → 49 ≤ get_or ds 0 0 → signed_decimal (neg_ℤ (pos n)) ≡ 45 ∷ ds
negative_text zero ds e first =
    let nothing : get_or ds 0 0 ≡ 48 = ap (λ (t : List ℕ). get_or t 0 0) (sym e ∙ decimal_digit 0 (omega arith)) in
    absurd (omega (arith, nothing, first))
negative_text (suc n) ds e first = ap (λ (t : List ℕ). 45 ∷ t) e

negative_below : (n : ℕ) → mag (neg_ℤ (pos n)) < 2 ^ 63 → n < 2 ^ 64
negative_below zero h = omega arith
negative_below (suc n) h = omega (arith, h)

some_chosen : (b : Bool) (y z : ℤ) → cond b (Some y) None ≡ Some z → (b ≡ true) × (y ≡ z)
some_chosen true y z e = (refl, cc)
some_chosen false y z e = absurd cc

-- the number of a spelling with 64 bits
pub int_of_some : (p : List ℕ) (z : ℤ) → int_of p ≡ Some z → (signed_digits_value 10 p ≡ z) × (mag (signed_digits_value 10 p) < 2 ^ 63)
unfolding int_of
int_of_some p z e =
    let parts = some_chosen (is_numeral (without_leading_sign p) && is_i64 (signed_digits_value 10 p)) (signed_digits_value 10 p) z e in
    let tests = and_parts (is_numeral (without_leading_sign p)) (is_i64 (signed_digits_value 10 p)) parts.0 in
    (parts.1, ltb-true (mag (signed_digits_value 10 p)) (2 ^ 63) tests.1)

pub no_sign : (ds : List ℕ) → 49 ≤ get_or ds 0 0 → signed_digits_value 10 ds ≡ pos (digits_value 10 ds)
no_sign ds first =
    let no_minus : eqb (get_or ds 0 0) 45 ≡ false = ne_eqb (get_or ds 0 0) 45 (λ e. omega (arith, first, e)) in
    let no_plus : eqb (get_or ds 0 0) 43 ≡ false = ne_eqb (get_or ds 0 0) 43 (λ e. omega (arith, first, e)) in
    rw (no_minus, no_plus) refl

-- an int is spelled as its number is
pub int_spelled : (p : List ℕ) (z : ℤ) → IsInt p → int_of p ≡ Some z → signed_decimal z ≡ p
int_spelled p z just_zero e =
    let v = int_of_some (48 ∷ []) z e in
    ap signed_decimal (sym v.0) ∙ decimal_digit 0 (omega arith)
int_spelled p z (positive h) e =
    let v = int_of_some p z e in
    let plain = no_sign p h.first in
    let below : digits_value 10 p < 2 ^ 64 = omega (arith, rw plain at v.1) in
    ap signed_decimal (sym v.0 ∙ plain) ∙ decimal_back p h below
int_spelled p z (negative {ds} h) e =
    let v = int_of_some (45 ∷ ds) z e in
    ap signed_decimal (sym v.0) ∙ negative_text (digits_value 10 ds) ds (decimal_back ds h (negative_below (digits_value 10 ds) v.1)) h.first
