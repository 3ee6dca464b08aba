-- The reader of ints reads the ints of the grammar.
-- Cited by Outside, PlaceShapes, WordShapes; other crates.
use Rattle.std.proofs.Common.{◌≡◌, ℕ, Bool, true, false, cond, eqb, leb, List, [], ◌∷◌, ◌++◌, Result, Ok, Err, refl, sym, ap, subst, ◌∙◌, arith}
use Rattle.std.proofs.lemmas.Bool.{ne_eqb, eqb-true, leb-true, le-leb, and_parts, and_from}
use Rattle.std.proofs.lemmas.List.Elements.{All-nil, All-cons, All-head, All-tail}
use Rattle.std.specs.Prelude.{All}
use Rattle.std.specs.Char.{is_ascii_digit}
use Rattle.std.specs.Int.{is_in_range}
use Rattle.kt_tuple.specs.Grammar.{IsDigit, IsFirstDigit, IsInt, just_zero, positive, negative}
use Rattle.kt_tuple.specs.Reading.{after_digits, after_positive, split_before, up_to, int_at, begins_with_digit}
use Rattle.kt_tuple.proofs.IntLaws.{split_front}
use Rattle.kt_tuple.proofs.Shapes.{Again, Halts, Took, Stops, took_split, stops_nil, stops_here}

digit_from : (c : ℕ) → is_ascii_digit c ≡ true → IsDigit c
digit_from c e = let h = and_parts (leb 48 c) (leb c 57) e in (leb-true 48 c h.0, leb-true c 57 h.1)

pub is_digit : (c : ℕ) → IsDigit c → is_ascii_digit c ≡ true
is_digit c h = and_from (leb 48 c) (leb c 57) (le-leb 48 c h.0) (le-leb c 57 h.1)

first_from : (c : ℕ) → is_in_range 49 57 c ≡ true → IsFirstDigit c
first_from c e = let h = and_parts (leb 49 c) (leb c 57) e in (leb-true 49 c h.0, leb-true c 57 h.1)

is_first : (c : ℕ) → IsFirstDigit c → is_in_range 49 57 c ≡ true
is_first c h = and_from (leb 49 c) (leb c 57) (le-leb 49 c h.0) (le-leb c 57 h.1)

-- the digits in front
pub record HasDigits (text rest : List ℕ) : Type 0 where
  pub digits : List ℕ
  pub parts : text ≡ digits ++ rest
  pub are : All IsDigit digits
  pub end : begins_with_digit rest ≡ false

digits_by_test : (b : Bool) (c : ℕ) (cs : List ℕ) → is_ascii_digit c ≡ b → HasDigits cs (after_digits cs)
    → HasDigits (c ∷ cs) (cond b (after_digits cs) (c ∷ cs))
digits_by_test true c cs e h = record {
  digits = c ∷ h.digits;
  parts = ap (λ (t : List ℕ). c ∷ t) h.parts;
  are = All-cons IsDigit c h.digits (digit_from c e) h.are;
  end = h.end;
}
digits_by_test false c cs e h = record { digits = []; parts = refl; are = All-nil IsDigit; end = e }

digits_taken : (text : List ℕ) → HasDigits text (after_digits text)
digits_taken [] = record { digits = []; parts = refl; are = All-nil IsDigit; end = refl }
digits_taken (c ∷ cs) = digits_by_test (is_ascii_digit c) c cs refl (digits_taken cs)

digits_read : (ds rest : List ℕ) → All IsDigit ds → begins_with_digit rest ≡ false → after_digits (ds ++ rest) ≡ rest
digits_read [] [] h end = refl
digits_read [] (c ∷ cs) h end = rw end refl
digits_read (c ∷ ds) rest h end = rw (is_digit c (All-head IsDigit c ds h)) (digits_read ds rest (All-tail IsDigit c ds h) end)

-- digits in front of which the first is not 0
pub record HasPositive (text rest : List ℕ) : Type 0 where
  pub first : ℕ
  pub others : List ℕ
  pub parts : text ≡ first ∷ (others ++ rest)
  pub is : IsFirstDigit first
  pub are : All IsDigit others
  pub end : begins_with_digit rest ≡ false

positive_by_test : (b : Bool) (c : ℕ) (cs rest : List ℕ) → is_in_range 49 57 c ≡ b → cond b (Ok (after_digits cs)) (Err (c ∷ cs)) ≡ Ok rest
    → HasPositive (c ∷ cs) rest
positive_by_test true c cs rest e read =
    let same : after_digits cs ≡ rest = cc in
    let h = digits_taken cs in
    record {
      first = c;
      others = h.digits;
      parts = ap (λ (t : List ℕ). c ∷ t) (h.parts ∙ ap (λ (t : List ℕ). h.digits ++ t) same);
      is = first_from c e;
      are = h.are;
      end = ap begins_with_digit (sym same) ∙ h.end;
    }
positive_by_test false c cs rest e read = absurd cc

positive_taken : (text rest : List ℕ) → after_positive text ≡ Ok rest → HasPositive text rest
positive_taken [] rest e = absurd cc
positive_taken (c ∷ cs) rest e = positive_by_test (is_in_range 49 57 c) c cs rest refl e

positive_read : (c : ℕ) (ds rest : List ℕ) → IsFirstDigit c → All IsDigit ds → begins_with_digit rest ≡ false → after_positive (c ∷ (ds ++ rest)) ≡ Ok rest
positive_read c ds rest first digits end = rw (is_first c first) (ap (λ (t : List ℕ). Ok t) (digits_read ds rest digits end))

positive_by_fault : (b : Bool) (c : ℕ) (cs rest : List ℕ) → is_in_range 49 57 c ≡ b → cond b (Ok (after_digits cs)) (Err (c ∷ cs)) ≡ Err rest
    → (c ∷ cs ≡ rest) × Halts after_positive [] (c ∷ cs)
positive_by_fault true c cs rest e read = absurd cc
positive_by_fault false c cs rest e read = (cc, λ w. rw e refl)

positive_stopped : (text rest : List ℕ) → after_positive text ≡ Err rest → (text ≡ rest) × Halts after_positive [] text
positive_stopped [] rest e = (cc, tt)
positive_stopped (c ∷ cs) rest e = positive_by_fault (is_in_range 49 57 c) c cs rest refl e

-- an int is read up to its last digit
pub int_read : (p rest : List ℕ) → IsInt p → begins_with_digit rest ≡ false → int_at (p ++ rest) ≡ Ok (p, rest)
unfolding int_at
int_read p rest just_zero end = refl
int_read p rest (positive {c} {ds} first digits) end =
    let no_zero : eqb c 48 ≡ false = ne_eqb c 48 (λ e. omega (arith, first.0, e)) in
    let no_minus : eqb c 45 ≡ false = ne_eqb c 45 (λ e. omega (arith, first.0, e)) in
    rw (no_zero, no_minus, positive_read c ds rest first digits end) (ap (λ (x : List ℕ × List ℕ). Ok x) (split_front (c ∷ ds) rest))
int_read p rest (negative {c} {ds} first digits) end =
    rw (positive_read c ds rest first digits end) (ap (λ (x : List ℕ × List ℕ). Ok x) (split_front (45 ∷ c ∷ ds) rest))

-- an int that ends where no digit stands
ended : (p rest : List ℕ) → IsInt p → begins_with_digit rest ≡ false → Again int_at p rest
ended p [] h end = tt
ended p (d ∷ ds) h end = λ w. int_read p (d ∷ w) h end

zero_again : (rest : List ℕ) → Again int_at (48 ∷ []) rest
unfolding int_at
zero_again [] = tt
zero_again (d ∷ ds) = λ w. refl

pub up_to_ok : (text : List ℕ) (r : Result (List ℕ) (List ℕ)) (x : List ℕ × List ℕ) → up_to text r ≡ Ok x → (after : List ℕ) × (r ≡ Ok after)
    × (split_before text after ≡ x)
up_to_ok text (Ok after) x e = (after, refl, cc)
up_to_ok text (Err e') x e = absurd cc

pub up_to_err : (text : List ℕ) (r : Result (List ℕ) (List ℕ)) (rest : List ℕ) → up_to text r ≡ Err rest → r ≡ Err rest
up_to_err text (Ok after) rest e = absurd cc
up_to_err text (Err e') rest e = cc

int_by_sign : (b : Bool) (c : ℕ) (cs : List ℕ) (x : List ℕ × List ℕ) → eqb c 45 ≡ b → up_to (c ∷ cs) (after_positive (cond b cs (c ∷ cs))) ≡ Ok x
    → Took int_at IsInt (c ∷ cs) x
int_by_sign true c cs x e read =
    let up = up_to_ok (c ∷ cs) (after_positive cs) x read in
    let h = positive_taken cs up.0 up.1 in
    let p = 45 ∷ h.first ∷ h.others in
    let is : IsInt p = negative h.is h.are in
    let whole : c ∷ cs ≡ p ++ up.0 = ap (λ k. k ∷ cs) (eqb-true c 45 e) ∙ ap (λ (t : List ℕ). 45 ∷ t) h.parts in
    took_split int_at IsInt (c ∷ cs) p up.0 x whole up.2 is (ended p up.0 is h.end)
int_by_sign false c cs x e read =
    let up = up_to_ok (c ∷ cs) (after_positive (c ∷ cs)) x read in
    let h = positive_taken (c ∷ cs) up.0 up.1 in
    let p = h.first ∷ h.others in
    let is : IsInt p = positive h.is h.are in
    took_split int_at IsInt (c ∷ cs) p up.0 x h.parts up.2 is (ended p up.0 is h.end)

int_by_zero : (b : Bool) (c : ℕ) (cs : List ℕ) (x : List ℕ × List ℕ) → eqb c 48 ≡ b
    → cond b (Ok (48 ∷ [], cs)) (up_to (c ∷ cs) (after_positive (cond (eqb c 45) cs (c ∷ cs)))) ≡ Ok x → Took int_at IsInt (c ∷ cs) x
int_by_zero true c cs x e read =
    let same : (48 ∷ [], cs) ≡ x = cc in
    let took : Took int_at IsInt (c ∷ cs) (48 ∷ [], cs) = (ap (λ k. k ∷ cs) (eqb-true c 48 e), just_zero, zero_again cs) in
    subst (Took int_at IsInt (c ∷ cs)) same took
int_by_zero false c cs x e read = int_by_sign (eqb c 45) c cs x refl read

pub int_takes : (text : List ℕ) (x : List ℕ × List ℕ) → int_at text ≡ Ok x → Took int_at IsInt text x
unfolding int_at
int_takes [] x e = absurd cc
int_takes (c ∷ cs) x e = int_by_zero (eqb c 48) c cs x refl e

pub one_int : (p : List ℕ) × IsInt p
one_int = (48 ∷ [], just_zero)

minus_halts : (rest : List ℕ) → Halts after_positive [] rest → Halts int_at (45 ∷ []) rest
unfolding int_at
minus_halts [] h = tt
minus_halts (d ∷ ds) h = λ w. rw (h w) refl

stopped_by_sign : (b : Bool) (c : ℕ) (cs rest : List ℕ) → eqb c 48 ≡ false → eqb c 45 ≡ b → up_to (c ∷ cs) (after_positive (cond b cs (c ∷ cs))) ≡ Err rest
    → Stops int_at IsInt (c ∷ cs) rest
unfolding int_at
stopped_by_sign true c cs rest no_zero e read =
    let h = positive_stopped cs rest (up_to_err (c ∷ cs) (after_positive cs) rest read) in
    let minus : Stops int_at IsInt (c ∷ cs) cs = (
      45 ∷ [],
      ap (λ k. k ∷ cs) (eqb-true c 45 e),
      (49 ∷ [], negative (omega arith, omega arith) (All-nil IsDigit)),
      minus_halts cs h.1,
    ) in
    subst (Stops int_at IsInt (c ∷ cs)) h.0 minus
stopped_by_sign false c cs rest no_zero e read =
    let h = positive_stopped (c ∷ cs) rest (up_to_err (c ∷ cs) (after_positive (c ∷ cs)) rest read) in
    stops_here int_at IsInt c cs rest one_int h.0 (λ w. rw (no_zero, e, h.1 w) refl)

stopped_by_zero : (b : Bool) (c : ℕ) (cs rest : List ℕ) → eqb c 48 ≡ b
    → cond b (Ok (48 ∷ [], cs)) (up_to (c ∷ cs) (after_positive (cond (eqb c 45) cs (c ∷ cs)))) ≡ Err rest → Stops int_at IsInt (c ∷ cs) rest
stopped_by_zero true c cs rest e read = absurd cc
stopped_by_zero false c cs rest e read = stopped_by_sign (eqb c 45) c cs rest e refl read

pub int_stops : (text rest : List ℕ) → int_at text ≡ Err rest → Stops int_at IsInt text rest
unfolding int_at
int_stops [] rest e = stops_nil int_at IsInt rest one_int cc
int_stops (c ∷ cs) rest e = stopped_by_zero (eqb c 48) c cs rest refl e

pub int_none : (x : List ℕ × List ℕ) → int_at [] ≡ Ok x → ⊥
unfolding int_at
int_none x e = absurd cc

pub int_nil : (rest : List ℕ) → int_at [] ≡ Err rest → [] ≡ rest
unfolding int_at
int_nil rest e = cc
