-- What the parser makes of a text, place by place.
-- Cited by Made, Making, Texts, Wholes, WholesRead, parsing.rt, `parsing::items_in`.
use Rattle.std.specs.Prelude.{ℕ, zero, suc, List, [], ◌∷◌, ◌++◌, Option, Some, None, option_to_list, Result, Ok, Err}
use Rattle.kt_tuple.specs.declared.tuple.TheConstants.{MAX_PLACES}
use Rattle.kt_tuple.specs.Reading.{word_at, after_place}
use Rattle.kt_tuple.specs.Parsing.{Reader}

-- the things behind a place, as far as the text goes on
abbrev pub made_behind : {A : Type 0} → Result (Option (List ℕ)) (List ℕ) → (List ℕ → List A) → List A
made_behind (Err rest) more = []
made_behind (Ok None) more = []
made_behind (Ok (Some next)) more = more next

-- what is made of a place that was read, and of those behind it
abbrev pub made_with : {A : Type 0} → Result (List ℕ × List ℕ) (List ℕ) → (List ℕ → Option A) → (List ℕ → List A)
    → List A
made_with (Err rest) make more = []
made_with (Ok place) make more = option_to_list (make place.0) ++ made_behind (after_place place.1) more

-- at most so many things, made of the spellings of the places, as far as the text goes on
unfoldable pub made_from : {A : Type 0} → Reader → (List ℕ → Option A) → ℕ → List ℕ → List A
made_from read make zero text = []
made_from read make (suc n) text = made_with (read text) make (made_from read make n)

abbrev pub made_after : {A : Type 0} → Reader → (List ℕ → Option A) → Result (List ℕ) (List ℕ) → List A
made_after read make (Err rest) = []
made_after read make (Ok start) = made_from read make MAX_PLACES start

-- the things that are made of the places of a text
abbrev pub made_in : {A : Type 0} → Reader → (List ℕ → Option A) → List ℕ → List A
made_in read make text = made_after read make (word_at text (40 ∷ []))
