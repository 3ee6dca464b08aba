-- A place that is read is spelled so.
-- Cited by PlacesRead, Texts, `laws::a_front_read_is_spelled_so`; other crates.
use Rattle.std.proofs.Common.{◌≡◌, ℕ, Bool, true, false, cond, eqb, List, [], ◌∷◌, ◌++◌, Option, Some, None, Ok, refl, sym, ap, subst, ◌∙◌}
use Rattle.std.specs.Prelude.{codes, nat_eq, IsSome}
use Rattle.std.specs.Cmp.Lexicographic.{pointwise}
use Rattle.std.specs.Option.{option_map}
use Rattle.kt_tuple.specs.declared.value.Value.{Value}
use Rattle.kt_tuple.specs.declared.value.Kind.{Kind}
use Rattle.kt_tuple.specs.declared.value.Kind.TheVariants as kinds
use Rattle.kt_tuple.specs.declared.template.Place.{Place}
use Rattle.kt_tuple.specs.declared.template.Place.TheVariants.{Actual, Formal}
use Rattle.kt_tuple.specs.Valid.{IsPlace}
use Rattle.kt_tuple.specs.Spelling.{kind_text, place_text}
use Rattle.kt_tuple.specs.Reading.{◌>>=◌, word_at, after_kind, split_before, formal_at, place_at, value_at, value_of, place_of, has_range, is_short}
use Rattle.kt_tuple.proofs.IntLaws.{parts_of, int_first}
use Rattle.kt_tuple.proofs.ValueLaws.{quoted, IsValueText, int, str, truth, word_taken, bound, value_taken, value_spelled, value_in_range, value_made}

-- a value, `?int`, `?str` or `?bool`
pub data IsPlaceText : List ℕ → Type 0 where
  actual : {p : List ℕ} → IsValueText p → IsPlaceText p
  formal : (k : Kind) → IsPlaceText (63 ∷ kind_text k)

kind_by_test : (i b : Bool) (text rest : List ℕ)
    → cond i (word_at text (codes "int")) (cond b (word_at text (codes "bool")) (word_at text (codes "str"))) ≡ Ok rest
    → (k : Kind) × (text ≡ kind_text k ++ rest)
kind_by_test true b text rest e = (kinds.Int, word_taken text (codes "int") rest e)
kind_by_test false true text rest e = (kinds.Bool, word_taken text (codes "bool") rest e)
kind_by_test false false text rest e = (kinds.Str, word_taken text (codes "str") rest e)

kind_taken : (text rest : List ℕ) → after_kind text ≡ Ok rest → (k : Kind) × (text ≡ kind_text k ++ rest)
kind_taken [] rest e = absurd cc
kind_taken (c ∷ cs) rest e = kind_by_test (eqb c 105) (eqb c 98) (c ∷ cs) rest e

formal_taken : (text p rest : List ℕ) → formal_at text ≡ Ok (p, rest) → (text ≡ p ++ rest) × IsPlaceText p
unfolding formal_at
formal_taken text p rest e =
    let behind = bound (word_at text (63 ∷ [])) (λ kind. after_kind kind >>= λ after. Ok (split_before text after)) (p, rest) e in
    let after = bound (after_kind behind.0) (λ after. Ok (split_before text after)) (p, rest) behind.2 in
    let kind = kind_taken behind.0 after.0 after.1 in
    let whole : text ≡ (63 ∷ kind_text kind.0) ++ after.0 = word_taken text (63 ∷ []) behind.0 behind.1 ∙ ap (λ (t : List ℕ). 63 ∷ t) kind.1 in
    let split : split_before text after.0 ≡ (p, rest) = cc (after.2) in
    let same = parts_of text (63 ∷ kind_text kind.0) after.0 p rest whole split in
    (whole ∙ ap (λ (t : List ℕ). t ++ after.0) same.0 ∙ ap (λ (t : List ℕ). p ++ t) same.1, subst IsPlaceText same.0 (formal kind.0))

actual_taken : (text p rest : List ℕ) → value_at text ≡ Ok (p, rest) → (text ≡ p ++ rest) × IsPlaceText p
actual_taken text p rest e = let h = value_taken text p rest e in (h.0, actual h.1)

place_by_test : (b : Bool) (c : ℕ) (cs p rest : List ℕ) → cond b (formal_at (c ∷ cs)) (value_at (c ∷ cs)) ≡ Ok (p, rest) → (c ∷ cs ≡ p ++ rest) × IsPlaceText p
place_by_test true c cs p rest e = formal_taken (c ∷ cs) p rest e
place_by_test false c cs p rest e = actual_taken (c ∷ cs) p rest e

pub place_taken : (text p rest : List ℕ) → place_at text ≡ Ok (p, rest) → (text ≡ p ++ rest) × IsPlaceText p
unfolding place_at
place_taken [] p rest e = actual_taken [] p rest e
place_taken (c ∷ cs) p rest e = place_by_test (eqb c 63) c cs p rest e

-- the first byte of a value is no question mark
pub value_first : (p : List ℕ) → IsValueText p → (c : ℕ) × (cs : List ℕ) × (p ≡ c ∷ cs) × (eqb c 63 ≡ false)
value_first p (int h) = let f = int_first p h in (f.0, f.1, f.2, f.4)
value_first p (str (quoted {body} h)) = (34, body ++ 34 ∷ [], refl, refl)
value_first p (truth true) = (116, codes "rue", refl, refl)
value_first p (truth false) = (102, codes "alse", refl, refl)

pub place_of_plain : (p cs : List ℕ) (c : ℕ) → p ≡ c ∷ cs → eqb c 63 ≡ false → place_of p ≡ option_map (λ v. Actual v) (value_of p)
unfolding place_of
place_of_plain p cs c is no_mark = rw (is, no_mark) refl

-- the place of a value's text is an actual
pub place_of_actual : (p : List ℕ) → IsValueText p → place_of p ≡ option_map (λ v. Actual v) (value_of p)
place_of_actual p h = let f = value_first p h in place_of_plain p f.1 f.0 f.2 f.3

pub place_of_formal : (k : Kind) → place_of (63 ∷ kind_text k) ≡ Some (Formal k)
unfolding place_of
place_of_formal kinds.Int = refl
place_of_formal kinds.Str = refl
place_of_formal kinds.Bool = refl

actual_made : (o : Option Value) (q : Place) → option_map (λ v. Actual v) o ≡ Some q → (v : Value) × (o ≡ Some v) × (Actual v ≡ q)
actual_made (Some v) q e = (v, refl, cc)
actual_made None q e = absurd cc

same_place : (q r : Place) → Some q ≡ Some r → q ≡ r
same_place q r e = cc

-- the place of a text that was read is spelled so
pub place_spelled : (p : List ℕ) (q : Place) → IsPlaceText p → place_of p ≡ Some q → place_text q ≡ p
place_spelled p q (actual h) e =
    let made = actual_made (value_of p) q (sym (place_of_actual p h) ∙ e) in
    ap place_text (sym made.2) ∙ value_spelled p made.0 h made.1
place_spelled p q (formal k) e = ap place_text (sym (same_place (Formal k) q (sym (place_of_formal k) ∙ e)))

place_in_range_by_test : (i s b : Bool) (o : Option Value) (q : Place) → ((v : Value) → o ≡ Some v → IsPlace (Actual v))
    → cond i (Some (Formal kinds.Int)) (cond s (Some (Formal kinds.Str)) (cond b (Some (Formal kinds.Bool)) (option_map (λ v. Actual v) o))) ≡ Some q
    → IsPlace q
place_in_range_by_test true s b o q h e = subst IsPlace (same_place (Formal kinds.Int) q e) tt
place_in_range_by_test false true b o q h e = subst IsPlace (same_place (Formal kinds.Str) q e) tt
place_in_range_by_test false false true o q h e = subst IsPlace (same_place (Formal kinds.Bool) q e) tt
place_in_range_by_test false false false o q h e = let made = actual_made o q e in subst IsPlace made.2 (h made.0 made.1)

-- the place of a text is one that a program can hold
pub place_in_range : (p : List ℕ) (q : Place) → place_of p ≡ Some q → IsPlace q
unfolding place_of
place_in_range p q e =
    place_in_range_by_test (pointwise nat_eq p (codes "?int")) (pointwise nat_eq p (codes "?str")) (pointwise nat_eq p (codes "?bool"))
    (value_of p) q (value_in_range p) e

-- a text that was read is a place, where it is in range and short
pub place_made : (p : List ℕ) → IsPlaceText p → has_range p ≡ true → is_short p ≡ true → (q : Place) × (place_of p ≡ Some q)
place_made p (actual h) range short =
    let v = value_made p h range short in
    (Actual v.0, place_of_actual p h ∙ ap (option_map (λ w. Actual w)) v.1)
place_made p (formal k) range short = (Formal k, place_of_formal k)

-- what was read stands in front of the rest
pub place_read_front : (text p rest : List ℕ) → place_at text ≡ Ok (p, rest) → text ≡ p ++ rest
place_read_front text p rest e = (place_taken text p rest e).0

-- what was read is the text of its place
pub place_read_spelled : (text p rest : List ℕ) (q : Place) → place_at text ≡ Ok (p, rest) → place_of p ≡ Some q → place_text q ≡ p
place_read_spelled text p rest q e is = place_spelled p q (place_taken text p rest e).1 is

-- what was read is a place, where it is in range and short
pub place_read_made : (text p rest : List ℕ) → place_at text ≡ Ok (p, rest) → has_range p ≡ true → is_short p ≡ true → IsSome (place_of p)
place_read_made text p rest e range short =
    let made = place_made p (place_taken text p rest e).1 range short in
    rw made.1 refl
