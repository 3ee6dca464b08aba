-- Homes: what matches has one signature, so one home shard; a step on the home's share of the space is a step on the space.
-- Cited by OneRun, Shares, Survive; other crates.
use Rattle.std.proofs.Common.{◌≡◌, ◌≢◌, ℕ, Bool, true, false, List, [], ◌∷◌, filter, Contains, IsPermutation, sym, refl, ap, ap₂, ◌∙◌, eqb, eq-eqb, ne_eqb}
use Rattle.std.proofs.lemmas.List.Sorted.{IsPermutation-refl, IsPermutation-sym, Contains-permutation}
use Rattle.kt_tuple.specs.declared.value.Value.{Value}
use Rattle.kt_tuple.specs.declared.tuple.Tuple.{Tuple}
use Rattle.kt_tuple.specs.declared.template.Place.{Place}
use Rattle.kt_tuple.specs.declared.template.Place.TheVariants.{Actual, Formal}
use Rattle.kt_tuple.specs.declared.template.Template.{Template}
use Rattle.kt_tuple.specs.declared.op.Op.{Op}
use Rattle.kt_tuple.specs.declared.op.Op.TheVariants.{Out, In, Rd, Inp, Rdp}
use Rattle.kt_tuple.specs.declared.op.Answer.{Answer}
use Rattle.kt_tuple.specs.declared.op.Answer.TheVariants as answers
use Rattle.kt_tuple.specs.Value.{kind_of}
use Rattle.kt_tuple.specs.Matching.{Admits, Matches}
use Rattle.kt_tuple.specs.Signature.{kind_of_place, kinds_of, kinds_of_places, kinds_of_op, shard_of}
use Rattle.kt_tuple.specs.Space.{SpaceStep}
use Rattle.kt_logs.specs.Bag.{without, served_bag}
use Rattle.kt_history.proofs.Shared.{Contains-here}
use Rattle.kt_logs.proofs.Bags.{takes, Contains-filter, Contains-unfilter, filter-without_kept, filter-without_other}

-- the shard that is a tuple's home
abbrev pub home_of : ℕ → Tuple → ℕ
home_of shards u = shard_of shards (kinds_of u)

abbrev pub is_home : ℕ → ℕ → Tuple → Bool
is_home shards s u = eqb (home_of shards u) s

-- what matches has one signature
pub kinds-Matches : (t : Template) (u : Tuple) → Matches t u → kinds_of u ≡ kinds_of_places t
kinds-Matches [] [] h = refl
kinds-Matches [] (v ∷ u) h = absurd h
kinds-Matches (p ∷ t) [] h = absurd h
kinds-Matches (p ∷ t) (v ∷ u) h = ap₂ ◌∷◌ (one p v h.0) (kinds-Matches t u h.1)
  where
    one : (p : Place) (v : Value) → Admits p v → kind_of v ≡ kind_of_place p
    one (Actual w) v e = ap kind_of e
    one (Formal k) v e = e

-- so one home
pub home-Matches : (shards : ℕ) (t : Template) (u : Tuple) → Matches t u → home_of shards u ≡ shard_of shards (kinds_of_places t)
home-Matches shards t u h = ap (shard_of shards) (kinds-Matches t u h)

-- a tuple at home in s, and one that is not
is_home-same : (shards s : ℕ) (u : Tuple) → home_of shards u ≡ s → is_home shards s u ≡ true
is_home-same shards s u e = eq-eqb (home_of shards u) s e

is_home-other : (shards s s' : ℕ) (u : Tuple) → home_of shards u ≡ s → s ≢ s' → is_home shards s' u ≡ false
is_home-other shards s s' u e d = ne_eqb (home_of shards u) s' (λ q. d (sym e ∙ q))

-- what was taken out of a share is in the whole
taken : (p : Tuple → Bool) (u : Tuple) (all : List Tuple) → IsPermutation (filter p all) (u ∷ without u (filter p all)) → Contains all u
taken p u all h =
    Contains-unfilter p u all (Contains-permutation (u ∷ without u (filter p all)) (filter p all) u
    (IsPermutation-sym (filter p all) (u ∷ without u (filter p all)) h) (Contains-here u (without u (filter p all))))

-- where the home has no match, the whole has none
no_match : (shards s : ℕ) (all : List Tuple) (t : Template) → shard_of shards (kinds_of_places t) ≡ s →
    ((u : Tuple) → Contains (filter (is_home shards s) all) u → ¬ Matches t u) → (u : Tuple) → Contains all u → ¬ Matches t u
no_match shards s all t home h u c m =
    h u (Contains-filter (is_home shards s) u all (is_home-same shards s u (home-Matches shards t u m ∙ home)) c) m

-- a step on the home's share is a step on all
pub step_of_all : (shards s : ℕ) (all : List Tuple) (op : Op) (answer : Answer) → shard_of shards (kinds_of_op op) ≡ s →
    SpaceStep (filter (is_home shards s) all) op answer (served_bag (filter (is_home shards s) all) op answer)
    → SpaceStep all op answer (served_bag all op answer)
step_of_all shards s all (Out u) answers.Done home h = IsPermutation-refl (u ∷ all)
step_of_all shards s all (In t) (answers.Got u) home h = (h.0, takes u all (taken (is_home shards s) u all h.1))
step_of_all shards s all (Rd t) (answers.Got u) home h = (h.0, Contains-unfilter (is_home shards s) u all h.1, IsPermutation-refl all)
step_of_all shards s all (Inp t) (answers.Got u) home h = (h.0, takes u all (taken (is_home shards s) u all h.1))
step_of_all shards s all (Inp t) answers.None home h = (no_match shards s all t home h.0, IsPermutation-refl all)
step_of_all shards s all (Rdp t) (answers.Got u) home h = (h.0, Contains-unfilter (is_home shards s) u all h.1, IsPermutation-refl all)
step_of_all shards s all (Rdp t) answers.None home h = (no_match shards s all t home h.0, IsPermutation-refl all)
step_of_all shards s all _ _ home h = absurd h

-- the home's share steps like the whole
pub share_at_home : (shards s : ℕ) (all bag : List Tuple) (op : Op) (answer : Answer) → shard_of shards (kinds_of_op op) ≡ s →
    SpaceStep bag op answer (served_bag bag op answer)
    → filter (is_home shards s) (served_bag all op answer) ≡ served_bag (filter (is_home shards s) all) op answer
share_at_home shards s all bag (Out u) answer home h = rw (is_home-same shards s u home) refl
share_at_home shards s all bag (In t) (answers.Got u) home h =
    filter-without_kept (is_home shards s) u all (is_home-same shards s u (home-Matches shards t u h.0 ∙ home))
share_at_home shards s all bag (Inp t) (answers.Got u) home h =
    filter-without_kept (is_home shards s) u all (is_home-same shards s u (home-Matches shards t u h.0 ∙ home))
share_at_home shards s all bag (Inp t) answers.None home h = refl
share_at_home shards s all bag (Rd t) answer home h = refl
share_at_home shards s all bag (Rdp t) answer home h = refl
share_at_home shards s all bag _ _ home h = absurd h

-- the other shares stay
pub share_elsewhere : (shards s s' : ℕ) (all bag : List Tuple) (op : Op) (answer : Answer) → shard_of shards (kinds_of_op op) ≡ s → s ≢ s' →
    SpaceStep bag op answer (served_bag bag op answer) → filter (is_home shards s') (served_bag all op answer) ≡ filter (is_home shards s') all
share_elsewhere shards s s' all bag (Out u) answer home d h = rw (is_home-other shards s s' u home d) refl
share_elsewhere shards s s' all bag (In t) (answers.Got u) home d h =
    filter-without_other (is_home shards s') u all (is_home-other shards s s' u (home-Matches shards t u h.0 ∙ home) d)
share_elsewhere shards s s' all bag (Inp t) (answers.Got u) home d h =
    filter-without_other (is_home shards s') u all (is_home-other shards s s' u (home-Matches shards t u h.0 ∙ home) d)
share_elsewhere shards s s' all bag (Inp t) answers.None home d h = refl
share_elsewhere shards s s' all bag (Rd t) answer home d h = refl
share_elsewhere shards s s' all bag (Rdp t) answer home d h = refl
share_elsewhere shards s s' all bag _ _ home d h = absurd h
