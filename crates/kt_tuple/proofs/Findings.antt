-- What the parser finds place by place is what the definitions say of all places together.
-- Cited by parsing.rt.
use Rattle.std.proofs.Common.{◌≡◌, ℕ, ◌+◌, ◌-◌, ◌≤◌, Bool, true, false, not, cond, ◌||◌, ltb, leb, List, [], ◌∷◌, length}
use Rattle.std.proofs.Common.{Option, Some, None, Result, Ok, Err, refl, sym, ap, subst, ◌∙◌, arith, zero-add}
use Rattle.std.proofs.lemmas.Bool.{or_left, or_right, leb-true, leb-false, lt-ltb, le-ltb}
use Rattle.kt_tuple.specs.declared.tuple.TheConstants.{MAX_PLACES}
use Rattle.kt_tuple.specs.declared.parse_error.ParseError.TheVariants as faults
use Rattle.kt_tuple.specs.declared.parsing.Findings.{Findings}
use Rattle.kt_tuple.specs.Reading.{has_range, is_short}
use Rattle.kt_tuple.specs.Parsing.{Reader, first_outside, are_too_long, lower_fault, fault_of_places, fault_of, places_in}
use Rattle.kt_tuple.specs.auxiliary.Findings.{first_of, with_place, with_places, nothing_found, found_with, found_in}
use Rattle.kt_tuple.proofs.Faults.{is_one_long}

first_kept : (o : Option ℕ) → first_of o None ≡ o
first_kept None = refl
first_kept (Some n) = refl

first_later : (o : Option ℕ) (b : Bool) (n : ℕ) (later : Option ℕ) → first_of (first_of o (cond b None (Some n))) later ≡ first_of o (cond b later (Some n))
first_later (Some m) b n later = refl
first_later None true n later = refl
first_later None false n later = refl

-- the first int out of range
outside_found : (text : List ℕ) (found : Findings) (i : ℕ) (places : List (List ℕ × List ℕ))
    → (with_places text found i places).out_of_range ≡ first_of found.out_of_range (first_outside text places)
outside_found text found i [] = sym (first_kept found.out_of_range)
outside_found text found i (place ∷ places) =
    outside_found text (with_place text found i place) (i + 1) places
    ∙ first_later found.out_of_range (has_range place.0) (length text - length place.1) (first_outside text places)

-- what was too long stays too long
long_stays : (text : List ℕ) (found : Findings) (i : ℕ) (places : List (List ℕ × List ℕ)) → found.too_long ≡ true
    → (with_places text found i places).too_long ≡ true
long_stays text found i [] e = e
long_stays text found i (place ∷ places) e =
    long_stays text (with_place text found i place) (i + 1) places
    (or_left (found.too_long || not (is_short place.0)) (leb MAX_PLACES i) (or_left found.too_long (not (is_short place.0)) e))

long_kept : (b c : Bool) → c ≡ false → b ≡ (b || (c || false))
long_kept true c e = refl
long_kept false c e = rw e refl

long_later : (b c d e : Bool) → (((b || c) || false) || (d || e)) ≡ (b || (d || (c || e)))
long_later true c d e = refl
long_later false true true e = refl
long_later false true false e = refl
long_later false false d e = refl

long_by_test : (t : Bool) (text : List ℕ) (found : Findings) (i : ℕ) (place : List ℕ × List ℕ) (places : List (List ℕ × List ℕ)) → leb MAX_PLACES i ≡ t
    → ((s : Findings) → i + 1 ≤ MAX_PLACES
    → (with_places text s (i + 1) places).too_long ≡ (s.too_long || (ltb MAX_PLACES ((i + 1) + length places) || is_one_long places)))
    → (with_places text found i (place ∷ places)).too_long ≡ (found.too_long || (ltb MAX_PLACES (i + length (place ∷ places)) || is_one_long (place ∷ places)))
long_by_test true text found i place places test more =
    let many : ltb MAX_PLACES (i + length (place ∷ places)) ≡ true =
    lt-ltb MAX_PLACES (i + length (place ∷ places)) (omega (arith, leb-true MAX_PLACES i test)) in
    long_stays text (with_place text found i place) (i + 1) places (or_right (found.too_long || not (is_short place.0)) (leb MAX_PLACES i) test)
    ∙ sym (or_right found.too_long (ltb MAX_PLACES (i + length (place ∷ places)) || is_one_long (place ∷ places))
    (or_left (ltb MAX_PLACES (i + length (place ∷ places))) (is_one_long (place ∷ places)) many))
long_by_test false text found i place places test more =
    let count : (i + 1) + length places ≡ i + length (place ∷ places) = omega arith in
    more (with_place text found i place) (omega (arith, leb-false MAX_PLACES i test))
    ∙ ap (λ t. ((found.too_long || not (is_short place.0)) || t) || (ltb MAX_PLACES ((i + 1) + length places) || is_one_long places)) test
    ∙ ap (λ n. ((found.too_long || not (is_short place.0)) || false) || (ltb MAX_PLACES n || is_one_long places)) count
    ∙ long_later found.too_long (not (is_short place.0)) (ltb MAX_PLACES (i + length (place ∷ places))) (is_one_long places)

-- a str too long, or a place too many
long_found : (text : List ℕ) (found : Findings) (i : ℕ) (places : List (List ℕ × List ℕ)) → i ≤ MAX_PLACES
    → (with_places text found i places).too_long ≡ (found.too_long || (ltb MAX_PLACES (i + length places) || is_one_long places))
long_found text found i [] le = long_kept found.too_long (ltb MAX_PLACES (i + 0)) (le-ltb MAX_PLACES (i + 0) (omega (arith, le)))
long_found text found i (place ∷ places) le =
    long_by_test (leb MAX_PLACES i) text found i place places refl (λ s less. long_found text s (i + 1) places less)

ok_by : (text : List ℕ) (r : Result (List (List ℕ × List ℕ)) (List ℕ)) (found : Findings) → found_with text nothing_found 0 r ≡ Ok found
    → lower_fault found.out_of_range found.too_long ≡ fault_of_places text r
ok_by text (Err rest) found e = absurd cc
ok_by text (Ok places) found e =
    let same : with_places text nothing_found 0 places ≡ found = cc in
    subst (λ (s : Findings). lower_fault s.out_of_range s.too_long ≡ lower_fault (first_outside text places) (are_too_long places)) same
    (ap (λ o. lower_fault o (with_places text nothing_found 0 places).too_long) (outside_found text nothing_found 0 places)
    ∙ ap (λ b. lower_fault (first_outside text places) b) (long_found text nothing_found 0 places (omega arith))
    ∙ ap (λ n. lower_fault (first_outside text places) (ltb MAX_PLACES n || is_one_long places)) (zero-add (length places)))

err_by : (text : List ℕ) (r : Result (List (List ℕ × List ℕ)) (List ℕ)) (rest : List ℕ) → found_with text nothing_found 0 r ≡ Err rest
    → Some (faults.Syntax (length text - length rest)) ≡ fault_of_places text r
err_by text (Err others) rest e =
    let same : others ≡ rest = cc in
    ap (λ (t : List ℕ). Some (faults.Syntax (length text - length t))) (sym same)
err_by text (Ok places) rest e = absurd cc

-- the fault of what was found is that of the text
pub fault_of_found : (read : Reader) (text : List ℕ) (found : Findings) → found_in read text ≡ Ok found
    → lower_fault found.out_of_range found.too_long ≡ fault_of read text
fault_of_found read text found e = ok_by text (places_in read text) found e

-- and so where the text stops
pub fault_of_rest : (read : Reader) (text rest : List ℕ) → found_in read text ≡ Err rest
    → Some (faults.Syntax (length text - length rest)) ≡ fault_of read text
fault_of_rest read text rest e = err_by text (places_in read text) rest e

pub ruleset found_laws = (fault_of_found, fault_of_rest)
