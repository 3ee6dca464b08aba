-- What a template picks from tuples in order of arrival.
-- Cited by Asked, Bags, Filled, Picked, Searched, Taken, bag.rt, laws.rt, search.rt, specs/auxiliary/Slots,
--   `Bag::count_matches`, `Bag::nth_match_counted`, `Bag::take_nth`, `laws::no_match_is_given_where_fewer_match`; other
--   crates.
use Rattle.std.specs.Prelude.{◌≡◌, ℕ, zero, suc, Bool, true, false, nat_eq, ◌&&◌, if◌then◌else◌}
use Rattle.std.specs.Prelude.{List, [], ◌∷◌, ◌++◌, length, filter}
use Rattle.kt_tuple.specs.declared.tuple.Tuple.{Tuple}
use Rattle.kt_tuple.specs.declared.value.Value.{Value}
use Rattle.kt_tuple.specs.declared.template.Place.{Place}
use Rattle.kt_tuple.specs.declared.template.Place.TheVariants.{Actual, Formal}
use Rattle.kt_tuple.specs.declared.template.Template.{Template}
use Rattle.kt_tuple.specs.Equality.{value_eq}
use Rattle.kt_tuple.specs.Signature.{kinds_of, kinds_of_places, signature_of}
use Rattle.kt_tuple.specs.Matching.{Matches, matches}

-- the tuples that match, in order of arrival
abbrev pub matching : Template → List Tuple → List Tuple
matching t tuples = filter (matches t) tuples

-- the tuples without the k-th that matches, counted from 0; the others keep their order
unfoldable pub without_match : Template → ℕ → List Tuple → List Tuple
without_match t k [] = []
without_match t zero (u ∷ later) = if matches t u then later else u ∷ without_match t zero later
without_match t (suc k) (u ∷ later) = u ∷ without_match t (if matches t u then k else suc k) later

-- the tuples up to the k-th that matches, that one among them; all where fewer match
unfoldable pub up_to_match : Template → ℕ → List Tuple → List Tuple
up_to_match t k [] = []
up_to_match t zero (u ∷ later) = u ∷ (if matches t u then [] else up_to_match t zero later)
up_to_match t (suc k) (u ∷ later) = u ∷ up_to_match t (if matches t u then k else suc k) later

-- u matches, k that match came before it, and it alone is taken out of old, which leaves new
pub record TakesOut (t : Template) (k : ℕ) (old : List Tuple) (u : Tuple) (new : List Tuple) : Type 0 where
  pub before : List Tuple
  pub later : List Tuple
  pub was : old ≡ before ++ u ∷ later
  pub left : new ≡ before ++ later
  pub fits : Matches t u
  pub number : length (matching t before) ≡ k

-- the first value is the one that the first place asks for, or it asks for none
abbrev pub begins_alike : List Place → List Value → Bool
begins_alike [] u = true
begins_alike (Formal k ∷ places) u = true
begins_alike (Actual v ∷ places) [] = false
begins_alike (Actual v ∷ places) (w ∷ values) = value_eq v w

-- the tuple has the template's kinds and, where the template's first place is an actual, that first value
abbrev pub could_match : Template → Tuple → Bool
could_match t u = nat_eq (signature_of (kinds_of_places t)) (signature_of (kinds_of u)) && begins_alike t u
