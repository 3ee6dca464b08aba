-- What the match of a number is, and what is left without it.
-- Cited by `laws::a_bag_makes_steps_of_the_space`, `laws::a_match_is_taken_from_its_place`,
--   `laws::no_match_is_given_where_fewer_match`; other crates.
use Rattle.std.proofs.Common.{◌≡◌, ℕ, zero, suc, ◌≤◌, Bool, true, false, cond, List, [], ◌∷◌, ◌++◌}
use Rattle.std.proofs.Common.{length, Contains, IsPermutation, None, Some, inl, inr, sym, refl, ap, subst, ◌∙◌, arith}
use Rattle.std.specs.List.{slice_get}
use Rattle.std.proofs.lemmas.Bool.{false≢true}
use Rattle.std.proofs.lemmas.List.Elements.{Contains-append_right}
use Rattle.std.proofs.lemmas.List.Sorted.{IsPermutation-middle}
use Rattle.std.proofs.lemmas.Option.{slice_get_cases, none-some}
use Rattle.kt_tuple.specs.declared.tuple.Tuple.{Tuple}
use Rattle.kt_tuple.specs.declared.template.Template.{Template}
use Rattle.kt_tuple.specs.Matching.{Matches, matches}
use Rattle.kt_space.specs.Picking.{TakesOut, matching, without_match}
use Rattle.kt_space.proofs.Matched.{Matches-from_test, matches-from_Matches}
use Rattle.kt_space.proofs.Picked.{kept, kept_match, taken_match}

-- one more tuple before all
more : (t : Template) (n k : ℕ) (x : Tuple) (xs new : List Tuple) (u : Tuple)
    → ((before : List Tuple) → length (matching t before) ≡ n → length (matching t (x ∷ before)) ≡ k)
    → new ≡ x ∷ without_match t n xs → TakesOut t n xs u (without_match t n xs) → TakesOut t k (x ∷ xs) u new
more t n k x xs new u counts is h = record {
  before = x ∷ h.before;
  later = h.later;
  was = ap (λ (l : List Tuple). x ∷ l) h.was;
  left = is ∙ ap (λ (l : List Tuple). x ∷ l) h.left;
  fits = h.fits;
  number = counts h.before h.number;
}

pub takes_out : (t : Template) (k : ℕ) (xs : List Tuple) (u : Tuple) → slice_get (matching t xs) k ≡ Some u → TakesOut t k xs u (without_match t k xs)
takes_out t k [] u e = absurd (none-some u e)
takes_out t k (x ∷ xs) u e = by (matches t x) refl k e (λ n. takes_out t n xs u)
  where
    by : (r : Bool) → matches t x ≡ r → (n : ℕ) → slice_get (cond r (x ∷ matching t xs) (matching t xs)) n ≡ Some u
        → ((m : ℕ) → slice_get (matching t xs) m ≡ Some u → TakesOut t m xs u (without_match t m xs)) → TakesOut t n (x ∷ xs) u (without_match t n (x ∷ xs))
    by true m zero e rest =
        let same : x ≡ u = cc in
        record {
          before = [];
          later = xs;
          was = ap (λ (v : Tuple). v ∷ xs) same;
          left = taken_match t x xs m;
          fits = subst (Matches t) same
              (Matches-from_test t x m);
          number = refl;
        }
    by true m (suc n) e rest = more t n (suc n) x xs _ u (λ before at. rw m (ap suc at)) (kept_match t n x xs m) (rest n e)
    by false m n e rest = more t n n x xs _ u (λ before at. rw m at) (kept t n x xs m) (rest n e)

pub match_contained : (t : Template) (k : ℕ) (xs : List Tuple) (u : Tuple) → slice_get (matching t xs) k ≡ Some u → Contains xs u
match_contained t k xs u e =
    let h = takes_out t k xs u e in
    let here : Contains (u ∷ h.later) u = (0, omega arith, refl) in
    subst (λ (l : List Tuple). Contains l u) (sym h.was) (Contains-append_right h.before (u ∷ h.later) u here)

pub match_permutes : (t : Template) (k : ℕ) (xs : List Tuple) (u : Tuple) → slice_get (matching t xs) k ≡ Some u
    → IsPermutation xs (u ∷ without_match t k xs)
match_permutes t k xs u e =
    let h = takes_out t k xs u e in
    subst (λ (l : List Tuple). IsPermutation l (u ∷ without_match t k xs)) (sym h.was)
    (subst (λ (l : List Tuple). IsPermutation (h.before ++ u ∷ h.later) (u ∷ l)) (sym h.left) (IsPermutation-middle h.before u h.later))

-- where there is none, fewer match
pub fewer : (t : Template) (k : ℕ) (xs : List Tuple) → slice_get (matching t xs) k ≡ None → length (matching t xs) ≤ k
fewer t k xs e = elim (slice_get_cases (matching t xs) k).1 [
  | inl h ↦ absurd (none-some h.0 (sym e ∙ h.2))
  | inr h ↦ h.0
]

pub nothing_matches : (t : Template) (xs : List Tuple) → slice_get (matching t xs) 0 ≡ None → (u : Tuple) → Contains xs u → ¬ Matches t u
nothing_matches t [] e u c m = absurd (omega (arith, c.1))
nothing_matches t (x ∷ xs) e u c m = by (matches t x) refl e c (λ g d. nothing_matches t xs g u d m)
  where
    by : (r : Bool) → matches t x ≡ r → slice_get (cond r (x ∷ matching t xs) (matching t xs)) 0 ≡ None → Contains (x ∷ xs) u
        → (slice_get (matching t xs) 0 ≡ None → Contains xs u → ⊥) → ⊥
    by true k e c rest = none-some x (sym e)
    by false k e (zero, lt, at) rest = false≢true (sym k ∙ matches-from_Matches t x (subst (Matches t) (sym at) m))
    by false k e (suc i, lt, at) rest = rest e (i, omega arith, at)
