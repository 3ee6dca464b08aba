-- What the parser keeps of the places that it has read so far.
-- Cited by Findings, Places, parsing.rt, `parsing::found_in`.
use Rattle.std.specs.Prelude.{ℕ, ◌+◌, ◌-◌, ◌||◌, not, nat_le, false, if◌then◌else◌}
use Rattle.std.specs.Prelude.{List, [], ◌∷◌, length, Option, Some, None, Result, Ok, Err}
use Rattle.kt_tuple.specs.declared.tuple.TheConstants.{MAX_PLACES}
use Rattle.kt_tuple.specs.declared.parsing.Findings.{Findings}
use Rattle.kt_tuple.specs.Reading.{has_range, is_short}
use Rattle.kt_tuple.specs.Parsing.{Reader, places_in}

abbrev pub first_of : Option ℕ → Option ℕ → Option ℕ
first_of None second = second
first_of (Some n) second = Some n

abbrev pub nothing_found : Findings
nothing_found = record { out_of_range = None; too_long = false }

-- what was found so far, with one more place, which is the i-th, counted from 0
abbrev pub with_place : List ℕ → Findings → ℕ → List ℕ × List ℕ → Findings
with_place text found i place = record {
  out_of_range = first_of found.out_of_range (if has_range place.0 then None else Some (length text - length place.1));
  too_long = (found.too_long || not (is_short place.0)) || nat_le MAX_PLACES i;
}

abbrev pub with_places : List ℕ → Findings → ℕ → List (List ℕ × List ℕ) → Findings
with_places text found i [] = found
with_places text found i (place ∷ places) = with_places text (with_place text found i place) (i + 1) places

-- what was found with these places behind the first i
abbrev pub found_with : List ℕ → Findings → ℕ → Result (List (List ℕ × List ℕ)) (List ℕ) → Result Findings (List ℕ)
found_with text found i (Err rest) = Err rest
found_with text found i (Ok places) = Ok (with_places text found i places)

abbrev pub found_in : Reader → List ℕ → Result Findings (List ℕ)
found_in read text = found_with text nothing_found 0 (places_in read text)
