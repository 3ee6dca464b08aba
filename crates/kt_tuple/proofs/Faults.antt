-- No fault is found where each place is in range and short, and there are at most `MAX_PLACES`.
-- Cited by Exact, Findings, Making, TextFaults, Wholes, WholesRead.
use Rattle.std.proofs.Common.{◌≡◌, ℕ, ◌+◌, ◌<◌, ◌≤◌, Bool, true, false, not, cond, ltb, List, [], ◌∷◌, length}
use Rattle.std.proofs.Common.{Option, Some, None, Result, Ok, Err, refl, arith}
use Rattle.std.proofs.lemmas.Bool.{or_parts, or_from, not-false, not_from_true, ltb-false, le-ltb}
use Rattle.std.specs.List.{list_any}
use Rattle.kt_tuple.specs.declared.tuple.TheConstants.{MAX_PLACES}
use Rattle.kt_tuple.specs.Reading.{has_range, is_short}
use Rattle.kt_tuple.specs.Parsing.{first_outside, are_too_long, lower_fault, fault_of_places}

-- from the i-th place on, counted from 0
abbrev pub AreFine : ℕ → List (List ℕ × List ℕ) → Type 0
AreFine i [] = Unit
AreFine i (place ∷ places) = (i < MAX_PLACES) × (has_range place.0 ≡ true) × (is_short place.0 ≡ true) × AreFine (i + 1) places

-- a str of more than `MAX_CHARACTERS` characters is among them
abbrev pub is_one_long : List (List ℕ × List ℕ) → Bool
is_one_long places = list_any (λ place. not (is_short place.0)) places

no_fault : (o : Option ℕ) (b : Bool) → lower_fault o b ≡ None → (o ≡ None) × (b ≡ false)
no_fault None false e = (refl, refl)
no_fault None true e = absurd cc
no_fault (Some n) b e = absurd cc

pub none_outside : (b : Bool) (n : ℕ) (later : Option ℕ) → cond b later (Some n) ≡ None → (b ≡ true) × (later ≡ None)
none_outside true n later e = (refl, e)
none_outside false n later e = absurd cc

-- where there is no fault, the places are fine
fine_places : (text : List ℕ) (places : List (List ℕ × List ℕ)) (i : ℕ) → first_outside text places ≡ None → i + length places ≤ MAX_PLACES
    → is_one_long places ≡ false → AreFine i places
fine_places text [] i inside few short = tt
fine_places text (place ∷ places) i inside few short =
    let range = none_outside (has_range place.0) _ (first_outside text places) inside in
    let shorts = or_parts (not (is_short place.0)) (is_one_long places) short in (
      omega (arith, few),
      range.0,
      not-false (is_short place.0) shorts.0,
      fine_places text places (i + 1) range.1 (omega (arith, few)) shorts.1,
    )

-- where the places are fine, there is no fault
all_inside : (text : List ℕ) (places : List (List ℕ × List ℕ)) (i : ℕ) → AreFine i places → first_outside text places ≡ None
all_inside text [] i fine = refl
all_inside text (place ∷ places) i fine = rw fine.1 (all_inside text places (i + 1) fine.3)

pub at_most_places : (places : List (List ℕ × List ℕ)) (i : ℕ) → i ≤ MAX_PLACES → AreFine i places → i + length places ≤ MAX_PLACES
at_most_places [] i le fine = omega (arith, le)
at_most_places (place ∷ places) i le fine = omega (arith, at_most_places places (i + 1) (omega (arith, fine.0)) fine.3)

all_short : (places : List (List ℕ × List ℕ)) (i : ℕ) → AreFine i places → is_one_long places ≡ false
all_short [] i fine = refl
all_short (place ∷ places) i fine =
    or_from (not (is_short place.0)) (is_one_long places) (not_from_true (is_short place.0) fine.2) (all_short places (i + 1) fine.3)

pub found_fine : (text : List ℕ) (r : Result (List (List ℕ × List ℕ)) (List ℕ)) → fault_of_places text r ≡ None
    → (places : List (List ℕ × List ℕ)) × (r ≡ Ok places) × AreFine 0 places
found_fine text (Ok places) e =
    let none = no_fault (first_outside text places) (are_too_long places) e in
    let long = or_parts (ltb MAX_PLACES (length places)) (is_one_long places) none.1 in
    (places, refl, fine_places text places 0 none.0 (omega (arith, ltb-false MAX_PLACES (length places) long.0)) long.1)
found_fine text (Err rest) e = absurd cc

pub fine_found : (text : List ℕ) (places : List (List ℕ × List ℕ)) → AreFine 0 places → fault_of_places text (Ok places) ≡ None
fine_found text places fine =
    let few : ltb MAX_PLACES (length places) ≡ false = le-ltb MAX_PLACES (length places) (omega (arith, at_most_places places 0 (omega arith) fine)) in
    rw (all_inside text places 0 fine, few, all_short places 0 fine) refl
