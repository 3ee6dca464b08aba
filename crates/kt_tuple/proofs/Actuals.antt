-- Actuals admit their own values alone.
-- Cited by `Template::of`.
use Rattle.std.proofs.Common.{◌≡◌, List, [], ◌∷◌, map, refl}
use Rattle.kt_tuple.specs.declared.template.Place.TheVariants.{Actual}
use Rattle.kt_tuple.specs.declared.value.Value.{Value}
use Rattle.kt_tuple.specs.Matching.{Matches, MatchesOnly}

only_these : (us vs : List Value) → Matches (map Actual us) vs → vs ≡ us
only_these [] [] h = refl
only_these [] (v ∷ vs) h = absurd h
only_these (u ∷ us) [] h = absurd h
only_these (u ∷ us) (v ∷ vs) h = let first : v ≡ u = h.0 in let later : vs ≡ us = only_these us vs h.1 in cc

these : (us : List Value) → Matches (map Actual us) us
these [] = tt
these (u ∷ us) = (refl, these us)

pub actuals_match_only : (us : List Value) → MatchesOnly (map Actual us) us
actuals_match_only us vs = (only_these us vs, λ e. rw e (these us))
