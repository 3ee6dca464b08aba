-- Tuples that equal another, found by the template that fits that one alone, and tuples that a template does not find.
-- Cited by Suited, `space::finds_none`, `space::reads`, `space::take_equal`, `space::withdraw`.
use Rattle.std.proofs.Common.{◌≡◌, Bool, true, false, not, List, ◌∷◌, Contains, IsPermutation, Option, Some, None, Bor, is_some, refl, sym, ap, subst, ◌∙◌}
use Rattle.std.specs.Prelude.{◌↔◌, IsTrue}
use Rattle.std.specs.List.{slice_get}
use Rattle.std.specs.Option.{option_copied}
use Rattle.std.proofs.lemmas.Bool.{false≢true}
use Rattle.std.proofs.lemmas.List.Sorted.{Contains-permutation, IsPermutation-refl, IsPermutation-sym}
use Rattle.kt_tuple.specs.declared.tuple.Tuple.{Tuple}
use Rattle.kt_tuple.specs.declared.template.Template.{Template}
use Rattle.kt_tuple.specs.Matching.{Matches, MatchesOnly}
use Rattle.kt_tuple.specs.Space.{FindsNone}
use Rattle.kt_history.proofs.Shared.{Contains-here}
use Rattle.kt_space.specs.Picking.{matching, without_match}
use Rattle.kt_space.proofs.Shared.{match_contained, match_permutes, nothing_matches, takes_out}

pub some_copied : {A : Type 0} (o : Option (Bor A)) → is_some (option_copied o) ≡ is_some o
some_copied None = refl
some_copied (Some x) = refl

-- what that template finds is the tuple itself
found_is : (t : Template) (u v : Tuple) (xs : List Tuple) → MatchesOnly t u → slice_get (matching t xs) 0 ≡ Some v → v ≡ u
found_is t u v xs only e = (only v).0 (takes_out t 0 xs v e).fits

pub found_there : (t : Template) (u : Tuple) (xs : List Tuple) (o : Option Tuple) → MatchesOnly t u → o ≡ slice_get (matching t xs) 0
    → IsTrue (is_some o) ↔ Contains xs u
found_there t u xs None only e = (λ h. absurd (false≢true h), λ there. absurd (nothing_matches t xs (sym e) u there ((only u).1 refl)))
found_there t u xs (Some v) only e = (λ _. subst (Contains xs) (found_is t u v xs only (sym e)) (match_contained t 0 xs v (sym e)), λ _. refl)

-- and the others are left
pub found_left : (t : Template) (u : Tuple) (xs new : List Tuple) (o : Option Tuple) → MatchesOnly t u → o ≡ slice_get (matching t xs) 0
    → new ≡ without_match t 0 xs → IsTrue (is_some o) → IsPermutation xs (u ∷ new)
found_left t u xs new None only e left h = absurd (false≢true h)
found_left t u xs new (Some v) only e left h =
    subst (λ (l : List Tuple). IsPermutation xs (u ∷ l)) (sym left)
    (subst (λ w. IsPermutation xs (w ∷ without_match t 0 xs)) (found_is t u v xs only (sym e)) (match_permutes t 0 xs v (sym e)))

-- what can be taken out is there
pub taken_there : (u : Tuple) (xs new : List Tuple) → IsPermutation xs (u ∷ new) → Contains xs u
taken_there u xs new h = Contains-permutation (u ∷ new) xs u (IsPermutation-sym xs (u ∷ new) h) (Contains-here u new)

-- a template finds none just where no tuple matches
pub none_found : (t : Template) (xs : List Tuple) (o : Option (Bor Tuple)) (none : Bool) → option_copied o ≡ slice_get (matching t xs) 0 → is_some o ≡ not none
    → IsTrue none → FindsNone t xs xs
none_found t xs None none e s h = (nothing_matches t xs (sym e), IsPermutation-refl xs)
none_found t xs (Some v) none e s h = let apart : true ≡ false = s ∙ ap not h in absurd (false≢true (sym apart))

pub none_matches : (t : Template) (xs : List Tuple) (o : Option (Bor Tuple)) (none : Bool) → option_copied o ≡ slice_get (matching t xs) 0
    → is_some o ≡ not none
    → ((u : Tuple) → Contains xs u → ¬ Matches t u) → IsTrue none
none_matches t xs None true e s unlike = refl
none_matches t xs None false e s unlike = absurd (false≢true s)
none_matches t xs (Some v) none e s unlike =
    absurd (unlike v.now (match_contained t 0 xs v.now (sym e)) (takes_out t 0 xs v.now (sym e)).fits)
