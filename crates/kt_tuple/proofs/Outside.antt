-- What it means for the number and the characters of a place to be out of range and too long.
-- Cited by ByShape, `laws::a_place_is_outside_or_too_long_by_its_shape`; other crates.
use Rattle.std.proofs.Common.{◌≡◌, ℕ, suc, ◌≤◌, ◌↔◌, true, false, eqb, ltb, List, [], ◌∷◌, ◌++◌, length, Option, Some, None, refl, sym, ap, subst, ◌∙◌, arith}
use Rattle.std.proofs.lemmas.Bool.{ne_eqb, leb-true, le-leb, lt-ltb, and_from}
use Rattle.std.proofs.lemmas.List.Elements.{All-head, All-tail}
use Rattle.std.specs.Prelude.{ℤ, All, is_some}
use Rattle.std.specs.Int.{w64}
use Rattle.std.specs.Int.RustNames.{FitsSigned}
use Rattle.std.specs.Str.{all_ascii_digits}
use Rattle.std.specs.Str.Parse.{IsNumeral, without_leading_sign, signed_digits_value}
use Rattle.kt_tuple.specs.declared.string.TheConstants.{MAX_CHARACTERS}
use Rattle.kt_tuple.specs.Grammar.{IsDigit, IsFirstDigit, IsInt, just_zero, positive, negative, IsCharacters, none, plain, quote}
use Rattle.kt_tuple.specs.Grammar.{backslash, character_count, IsStr, quoted, int, str, is_true, is_false, IsPlaceText}
use Rattle.kt_tuple.specs.Grammar.{actual, any_int, any_str, any_bool}
use Rattle.kt_tuple.specs.Reading.{is_numeral, int_of, has_range, is_short, unescaped, characters_of}
use Rattle.kt_tuple.proofs.Ints.{is_numeral-fact, int_parsed}
use Rattle.kt_tuple.proofs.IntShapes.{is_digit}
use Rattle.kt_tuple.proofs.IntLaws.{int_of_some}
use Rattle.kt_tuple.proofs.ValueLaws.{between}

all_digits : (ds : List ℕ) → All IsDigit ds → all_ascii_digits ds ≡ true
all_digits [] h = refl
all_digits (c ∷ ds) h = rw (is_digit c (All-head IsDigit c ds h)) (all_digits ds (All-tail IsDigit c ds h))

digit_of_first : (c : ℕ) → IsFirstDigit c → IsDigit c
digit_of_first c h = (omega (arith, h.0), h.1)

numeral : (c : ℕ) (ds : List ℕ) → IsFirstDigit c → All IsDigit ds → is_numeral (c ∷ ds) ≡ true
numeral c ds first digits =
    and_from (ltb 0 (length (c ∷ ds))) (all_ascii_digits (c ∷ ds)) (lt-ltb 0 (length (c ∷ ds)) (omega arith))
    (rw (is_digit c (digit_of_first c first)) (all_digits ds digits))

int_numeral : (p : List ℕ) → IsInt p → IsNumeral 10 (without_leading_sign p)
int_numeral p just_zero = is_numeral-fact (48 ∷ []) refl
int_numeral p (positive {c} {ds} first digits) =
    let no_minus : eqb c 45 ≡ false = ne_eqb c 45 (λ e. omega (arith, first.0, e)) in
    let no_plus : eqb c 43 ≡ false = ne_eqb c 43 (λ e. omega (arith, first.0, e)) in
    rw (no_minus, no_plus) (is_numeral-fact (c ∷ ds) (numeral c ds first digits))
int_numeral p (negative {c} {ds} first digits) = is_numeral-fact (c ∷ ds) (numeral c ds first digits)

-- an int is in range where it is in i64
int_inside : (p : List ℕ) → IsInt p → FitsSigned w64 (signed_digits_value 10 p) → is_some (int_of p) ≡ true
int_inside p is fits = ap is_some (sym (int_parsed p (signed_digits_value 10 p) (int_numeral p is, fits) refl))

pub range_of_int : (p : List ℕ) → IsInt p → has_range p ≡ is_some (int_of p)
unfolding has_range
range_of_int p just_zero = refl
range_of_int p (positive {c} {ds} first digits) =
    let no_quote : eqb c 34 ≡ false = ne_eqb c 34 (λ e. omega (arith, first.0, e)) in
    let no_mark : eqb c 63 ≡ false = ne_eqb c 63 (λ e. omega (arith, first.1, e)) in
    let no_t : eqb c 116 ≡ false = ne_eqb c 116 (λ e. omega (arith, first.1, e)) in
    let no_f : eqb c 102 ≡ false = ne_eqb c 102 (λ e. omega (arith, first.1, e)) in
    rw (no_quote, no_mark, no_t, no_f) refl
range_of_int p (negative first digits) = refl

some_number : (p : List ℕ) → is_some (int_of p) ≡ true → FitsSigned w64 (signed_digits_value 10 p)
some_number p e = by (int_of p) refl e
  where
    by : (o : Option ℤ) → int_of p ≡ o → is_some o ≡ true → FitsSigned w64 (signed_digits_value 10 p)
    by (Some z) is some = record { sfits = (int_of_some p z is).1 }
    by None is some = absurd cc

pub int_range : (p : List ℕ) → IsInt p → (has_range p ≡ true) ↔ FitsSigned w64 (signed_digits_value 10 p)
int_range p is = (λ e. some_number p (sym (range_of_int p is) ∙ e), λ fits. range_of_int p is ∙ int_inside p is fits)

pub formal_range : (p : List ℕ) → IsPlaceText p → has_range p ≡ false → IsInt p
unfolding has_range
formal_range p (actual (int is)) e = is
formal_range p (actual (str (quoted h))) e = absurd cc
formal_range p (actual is_true) e = absurd cc
formal_range p (actual is_false) e = absurd cc
formal_range p any_int e = absurd cc
formal_range p any_str e = absurd cc
formal_range p any_bool e = absurd cc

counted : (cs : List ℕ) (h : IsCharacters cs) → length (unescaped false cs) ≡ character_count h
counted cs none = refl
counted cs (plain {c} {cs = others} is h) =
    let no_backslash : eqb c 92 ≡ false = ne_eqb c 92 is.2 in
    rw no_backslash (ap suc (counted others h))
counted cs (quote {cs = others} h) = ap suc (counted others h)
counted cs (backslash {cs = others} h) = ap suc (counted others h)

pub str_count : (cs : List ℕ) (h : IsCharacters cs) → length (characters_of (34 ∷ (cs ++ 34 ∷ []))) ≡ character_count h
str_count cs h = ap (λ (t : List ℕ). length (unescaped false t)) (between cs) ∙ counted cs h

pub str_short : (cs : List ℕ) (h : IsCharacters cs) → (is_short (34 ∷ (cs ++ 34 ∷ [])) ≡ true) ↔ (character_count h ≤ MAX_CHARACTERS)
unfolding is_short
str_short cs h = (
  λ e. subst (λ n. n ≤ MAX_CHARACTERS) (str_count cs h) (leb-true (length (characters_of (34 ∷ (cs ++ 34 ∷ [])))) MAX_CHARACTERS e),
  λ le. le-leb (length
      (characters_of (34 ∷ (cs ++ 34 ∷ [])))) MAX_CHARACTERS (omega (arith, str_count cs h, le)),
)

-- no other place is too long
pub int_short : (p : List ℕ) → IsInt p → is_short p ≡ true
unfolding is_short
int_short p just_zero = refl
int_short p (positive {c} {ds} first digits) =
    let no_quote : eqb c 34 ≡ false = ne_eqb c 34 (λ e. omega (arith, first.0, e)) in
    rw no_quote refl
int_short p (negative first digits) = refl

pub place_short : (p : List ℕ) → IsPlaceText p → is_short p ≡ false → IsStr p
unfolding is_short
place_short p (actual (int is)) e = let never : true ≡ false = sym (int_short p is) ∙ e in absurd cc
place_short p (actual (str is)) e = is
place_short p (actual is_true) e = absurd cc
place_short p (actual is_false) e = absurd cc
place_short p any_int e = absurd cc
place_short p any_str e = absurd cc
place_short p any_bool e = absurd cc
