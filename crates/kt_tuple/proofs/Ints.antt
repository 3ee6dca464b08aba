-- Reading an int is std's reading of digits and a sign.
-- Cited by Outside, `reading::int_of`.
use Rattle.std.proofs.Common.{◌≡◌, ℕ, ◌^◌, Bool, true, false, cond, ◌&&◌, ltb, eqb, List, [], ◌∷◌, length, drop, Some, None, refl, sym, ap, subst, ◌∙◌, arith}
use Rattle.std.specs.Prelude.{ℤ}
use Rattle.std.specs.Int.{w64}
use Rattle.std.specs.Int.RustNames.{FitsSigned}
use Rattle.std.specs.Str.{IsAscii, IsUtf8, all_ascii_digits}
use Rattle.std.specs.Str.Parse.{IsNumeral, without_leading_sign, signed_digits_value}
use Rattle.std.proofs.lemmas.Str.{IsUtf8-from_ascii}
use Rattle.std.proofs.lemmas.Fmt.{IsAscii-from_digits}
use Rattle.std.proofs.lemmas.Bool.{ltb-true, lt-ltb, eqb-true, and_parts}
use Rattle.std.proofs.lemmas.Str.Ascii.{IsAscii-cons, IsAscii-nil}
use Rattle.std.specs.Cmp.Derive.{both_true}
use lib.Signed.{mag}
use mir.Val.{to_z, of_z}
use Rattle.std.proofs.lemmas.Int.{to_z-of_z}
use Rattle.kt_tuple.specs.Reading.{is_numeral, is_i64, int_of}
use Rattle.kt_tuple.proofs.IntLaws.{own}
use Rattle.kt_tuple.proofs.Strings.{chosen}

pub is_numeral-true : (ds : List ℕ) → IsNumeral 10 ds → is_numeral ds ≡ true
is_numeral-true ds h = rw (lt-ltb 0 (length ds) h.0) (own.from ds h.1)

pub is_numeral-fact : (ds : List ℕ) → is_numeral ds ≡ true → IsNumeral 10 ds
is_numeral-fact ds h =
    let parts = and_parts (ltb 0 (length ds)) (all_ascii_digits ds) h in
    (ltb-true 0 (length ds) parts.0, own.to ds parts.1)

-- a test that passes only where P holds, which it doesn't
failed : {X : Type 0} (b : Bool) (x y : X) → ((b ≡ true) → ⊥) → y ≡ cond b x y
failed true x y never = absurd (never refl)
failed false x y never = refl

pub int_parsed : (bs : List ℕ) (n : ℤ) → IsNumeral 10 (without_leading_sign bs) × FitsSigned w64 (signed_digits_value 10 bs) → n ≡ signed_digits_value 10 bs
    → Some n ≡ int_of bs
unfolding int_of
int_parsed bs n h e =
    ap (λ z. Some z) e
    ∙ chosen (is_numeral (without_leading_sign bs) && is_i64 (signed_digits_value 10 bs)) (Some (signed_digits_value 10 bs)) None
    (both_true (is_numeral-true (without_leading_sign bs) h.0) (lt-ltb (mag (signed_digits_value 10 bs)) (2 ^ 63) h.1.sfits))

is_int-fact : (bs : List ℕ) → (is_numeral (without_leading_sign bs) && is_i64 (signed_digits_value 10 bs)) ≡ true → IsNumeral 10 (without_leading_sign bs)
    × FitsSigned w64 (signed_digits_value 10 bs)
is_int-fact bs e =
    let parts = and_parts (is_numeral (without_leading_sign bs)) (is_i64 (signed_digits_value 10 bs)) e in
    (is_numeral-fact (without_leading_sign bs) parts.0, record { sfits = ltb-true (mag (signed_digits_value 10 bs)) (2 ^ 63) parts.1 })

pub int_refused : (bs : List ℕ) → ¬ (IsNumeral 10 (without_leading_sign bs) × FitsSigned w64 (signed_digits_value 10 bs)) → None ≡ int_of bs
unfolding int_of
int_refused bs never =
    failed (is_numeral (without_leading_sign bs) && is_i64 (signed_digits_value 10 bs)) (Some (signed_digits_value 10 bs)) None (λ e. never (is_int-fact bs e))

plus_ascii : (b : Bool) (c : ℕ) (cs : List ℕ) → eqb c 43 ≡ b → IsAscii (drop (cond b 1 0) (c ∷ cs)) → IsAscii (c ∷ cs)
plus_ascii true c cs e h = IsAscii-cons c cs (omega (arith, eqb-true c 43 e)) h
plus_ascii false c cs e h = h

minus_ascii : (b : Bool) (c : ℕ) (cs : List ℕ) → eqb c 45 ≡ b → IsAscii (cond b (drop 1 (c ∷ cs)) (drop (cond (eqb c 43) 1 0) (c ∷ cs))) → IsAscii (c ∷ cs)
minus_ascii true c cs e h = IsAscii-cons c cs (omega (arith, eqb-true c 45 e)) h
minus_ascii false c cs e h = plus_ascii (eqb c 43) c cs refl h

sign_ascii : (bs : List ℕ) → IsAscii (without_leading_sign bs) → IsAscii bs
sign_ascii [] h = IsAscii-nil
sign_ascii (c ∷ cs) h = minus_ascii (eqb c 45) c cs refl h

pub int_no_text : (bs : List ℕ) → ¬ (IsUtf8 bs) → None ≡ int_of bs
int_no_text bs never = int_refused bs (λ h. never (IsUtf8-from_ascii bs (sign_ascii bs (IsAscii-from_digits (without_leading_sign bs) h.0.1))))

-- the same of the number as the program holds it
pub int_read : (bs : List ℕ) (n : ℤ) → IsNumeral 10 (without_leading_sign bs) × FitsSigned w64 (signed_digits_value 10 bs) → n ≡ signed_digits_value 10 bs
    → Some (to_z w64 (of_z w64 n)) ≡ int_of bs
int_read bs n h e = ap (λ z. Some z) (to_z-of_z w64 n (subst (FitsSigned w64) (sym e) h.1)) ∙ int_parsed bs n h e
