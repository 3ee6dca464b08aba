-- The test of matching is matching.
-- Cited by Asked, Taken.
use Rattle.std.proofs.Common.{◌≡◌, true, [], ◌∷◌, refl}
use Rattle.std.proofs.lemmas.Bool.{false≢true, and_parts, and_from}
use Rattle.kt_tuple.specs.declared.tuple.Tuple.{Tuple}
use Rattle.kt_tuple.specs.declared.template.Template.{Template}
use Rattle.kt_tuple.specs.Matching.{Matches, matches, admits, admits_decides}

pub Matches-from_test : (t : Template) (u : Tuple) → matches t u ≡ true → Matches t u
Matches-from_test [] [] e = tt
Matches-from_test [] (v ∷ u) e = absurd (false≢true e)
Matches-from_test (p ∷ t) [] e = absurd (false≢true e)
Matches-from_test (p ∷ t) (v ∷ u) e = let both = and_parts (admits p v) (matches t u) e in ((admits_decides p v).0 both.0, Matches-from_test t u both.1)

pub matches-from_Matches : (t : Template) (u : Tuple) → Matches t u → matches t u ≡ true
matches-from_Matches [] [] h = refl
matches-from_Matches [] (v ∷ u) h = absurd h
matches-from_Matches (p ∷ t) [] h = absurd h
matches-from_Matches (p ∷ t) (v ∷ u) h = and_from (admits p v) (matches t u) ((admits_decides p v).1 h.0) (matches-from_Matches t u h.1)
