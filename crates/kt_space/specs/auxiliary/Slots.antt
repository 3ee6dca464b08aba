-- Slots, some of them empty, and the tuples that stand in them.
-- Cited by Asked, Bags, Filled, Passing, Searched, bag.rt, index.rt, search.rt, `Bag::count_matches`, `Bag::get`,
--   `Bag::nth_match_counted`, `Bag::put_reserved`, `Bag::take_nth`, `Bag::tidy`, `Index::of`, `bag::copy_of`,
--   `bag::nth_tuple`, `bag::tuples_of`, `search::among`.
use Rattle.std.specs.Prelude.{◌≡◌, ℕ, suc, ◌+◌, Bool, true, false, List, length, map, filter, take}
use Rattle.std.specs.Prelude.{Option, Some, None}
use Rattle.std.specs.List.{slice_get, filter_map}
use Rattle.std.specs.Option.{option_map}
use Rattle.kt_tuple.specs.declared.tuple.Tuple.{Tuple}
use Rattle.kt_tuple.specs.declared.template.Template.{Template}
use Rattle.kt_tuple.specs.Matching.{matches}
use Rattle.kt_space.specs.declared.key.Key.{Key}
use Rattle.kt_space.specs.auxiliary.Chaining.{Has, Fits}
use Rattle.kt_space.specs.auxiliary.Grouping.{kinds_key, first_key}
use Rattle.kt_space.specs.Picking.{could_match}

-- the tuples of the slots, in order
abbrev pub filled : List (Option Tuple) → List Tuple
filled slots = filter_map (λ s. s) slots

-- the keys of the slots' tuples
abbrev pub keyed : (Tuple → Key) → List (Option Tuple) → List (Option Key)
keyed key slots = map (option_map key) slots

-- a slot is there, and its tuple matches
abbrev pub slot_matches : Template → Option (Option Tuple) → Bool
slot_matches t None = false
slot_matches t (Some None) = false
slot_matches t (Some (Some u)) = matches t u

-- the tuples that may match have the key, and no others
pub record IsAsked (slots : List (Option Tuple)) (keys : List (Option Key)) (key : Key) (t : Template) : Type 0 where
  pub all : (place : ℕ) (u : Tuple) → slice_get slots place ≡ Some (Some u) → could_match t u ≡ true
      → Has keys place key
  pub only : (place : ℕ) → Has keys place key → (u : Tuple) × (slice_get slots place ≡ Some (Some u))
      × (could_match t u ≡ true)

-- the slots before a place, or all
abbrev pub before_place : List (Option Tuple) → Option ℕ → ℕ
before_place slots None = length slots
before_place slots (Some place) = place

-- the slots up to a place, with it, or all
abbrev pub through_place : List (Option Tuple) → Option ℕ → ℕ
through_place slots None = length slots
through_place slots (Some place) = suc place

-- how many of the first slots' tuples pass a test
abbrev pub passing : (Tuple → Bool) → List (Option Tuple) → ℕ → ℕ
passing test slots n = length (filter test (filled (take n slots)))

-- what a search has come to at a place, or at the end
pub record IsPassed (slots : List (Option Tuple)) (keys : List (Option Key)) (key : Key) (t : Template) (number : ℕ)
    (next : Option ℕ) (left compared : ℕ) : Type 0 where
  pub stands : Fits keys key next
  pub passed : passing (matches t) slots (before_place slots next) + left ≡ number
  pub counted : compared ≡ passing (could_match t) slots (before_place slots next)

-- the match of the number stands at the place
pub record IsFound (slots : List (Option Tuple)) (t : Template) (number place : ℕ) : Type 0 where
  pub tuple : Tuple
  pub there : slice_get slots place ≡ Some (Some tuple)
  pub fits : matches t tuple ≡ true
  pub before : passing (matches t) slots place ≡ number

-- the slots of a bag and its index agree, and where there is room for one tuple more, each of its parts has it
pub record IsIndexed (slots : List (Option Tuple)) (len : ℕ) (kinds firsts : List (Option Key)) : Type 0 where
  pub counted : length (filled slots) ≡ len
  pub by_kinds : kinds ≡ keyed kinds_key slots
  pub by_first : firsts ≡ keyed first_key slots
