-- What is read of the text of a tuple or a template, and the lowest fault of the text.
-- Cited by Exact, Explained, Faults, Findings, Made, Making, Only, Places, Shapes, TextFaults, TextShapes, TextStops,
--   Texts, Wholes, WholesRead, item.rt, laws.rt, parsing.rt, specs/auxiliary/Findings, specs/auxiliary/Making,
--   writing.rt, `Template::write_to`, `Tuple::write_to`, `parsing::found_in`.
use Rattle.std.specs.Prelude.{ℕ, zero, suc, ◌-◌, ◌||◌, not, nat_lt, Bool, true, false, if◌then◌else◌}
use Rattle.std.specs.Prelude.{List, [], ◌∷◌, length, Option, Some, None, Result, Ok, Err}
use Rattle.std.specs.List.{list_any, filter_map}
use Rattle.kt_tuple.specs.declared.tuple.TheConstants.{MAX_PLACES}
use Rattle.kt_tuple.specs.declared.value.Value.{Value}
use Rattle.kt_tuple.specs.declared.template.Place.{Place}
use Rattle.kt_tuple.specs.declared.parse_error.ParseError.{ParseError}
use Rattle.kt_tuple.specs.declared.parse_error.ParseError.TheVariants as faults
use Rattle.kt_tuple.specs.Reading.{◌>>=◌, word_at, value_at, place_at, after_place}
use Rattle.kt_tuple.specs.Reading.{has_range, is_short, value_of, place_of}

-- a function that reads one place
abbrev pub Reader : Type 0
Reader = List ℕ → Result (List ℕ × List ℕ) (List ℕ)

-- a place that was read, and those behind it where one follows
abbrev pub and_behind : {A : Type 0} → A → Option (List ℕ) → (List ℕ → Result (List A) (List ℕ))
    → Result (List A) (List ℕ)
and_behind first None others = Ok (first ∷ [])
and_behind first (Some next) others = others next >>= λ behind. Ok (first ∷ behind)

-- at most so many places up to the end of the text: the spelling of each, and the text from it on
unfoldable pub places_from : Reader → ℕ → List ℕ → Result (List (List ℕ × List ℕ)) (List ℕ)
places_from read zero text = Err text
places_from read (suc n) text =
    read text >>= λ place. after_place place.1 >>= λ next. and_behind (place.0, text) next (places_from read n)

-- the places of the whole text. It has fewer places than bytes
abbrev pub places_in : Reader → List ℕ → Result (List (List ℕ × List ℕ)) (List ℕ)
places_in read text = word_at text (40 ∷ []) >>= λ start. places_from read (length text) start

-- where the first of these places begins that is an int out of range; with each place stands the text from it on
abbrev pub first_outside : List ℕ → List (List ℕ × List ℕ) → Option ℕ
first_outside text [] = None
first_outside text (place ∷ places) =
    if has_range place.0 then first_outside text places else Some (length text - length place.1)

-- more than `MAX_PLACES` places, or a str of more than `MAX_CHARACTERS` characters among them
abbrev pub are_too_long : List (List ℕ × List ℕ) → Bool
are_too_long places = nat_lt MAX_PLACES (length places) || list_any (λ place. not (is_short place.0)) places

-- the lowest of both faults
abbrev pub lower_fault : Option ℕ → Bool → Option ParseError
lower_fault (Some at) too_long = Some (faults.Range at)
lower_fault None true = Some faults.TooLong
lower_fault None false = None

-- the lowest fault of a text of which these are the places, or which stops before the rest
abbrev pub fault_of_places : List ℕ → Result (List (List ℕ × List ℕ)) (List ℕ) → Option ParseError
fault_of_places text (Err rest) = Some (faults.Syntax (length text - length rest))
fault_of_places text (Ok places) = lower_fault (first_outside text places) (are_too_long places)

-- the lowest fault of the text, want of memory aside
abbrev pub fault_of : Reader → List ℕ → Option ParseError
fault_of read text = fault_of_places text (places_in read text)

-- what is made of the spellings of these places, in their order, and nothing of a text that stops
abbrev pub made_of : {A : Type 0} → (List ℕ → Option A) → Result (List (List ℕ × List ℕ)) (List ℕ) → List A
made_of make (Err rest) = []
made_of make (Ok places) = filter_map (λ place. make place.0) places

-- the lowest fault of the text of a tuple, and its values; the lowest fault of that of a template, and its places
abbrev pub tuple_fault : List ℕ → Option ParseError
tuple_fault text = fault_of value_at text

abbrev pub tuple_values : List ℕ → List Value
tuple_values text = made_of value_of (places_in value_at text)

abbrev pub template_fault : List ℕ → Option ParseError
template_fault text = fault_of place_at text

abbrev pub template_places : List ℕ → List Place
template_places text = made_of place_of (places_in place_at text)
