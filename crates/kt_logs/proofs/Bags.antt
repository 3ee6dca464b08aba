-- Bags: a tuple taken out of a bag, and what a filter keeps of it.
-- Cited by Causes, Follows, Homes, Orders, Permutations, Shares, Traces; other crates.
use Rattle.std.proofs.Common.{◌≡◌, zero, suc, Bool, true, false, cond, List, [], ◌∷◌, filter, Contains}
use Rattle.std.proofs.Common.{IsPermutation, ◌⊎◌, inl, inr, sym, refl, ap, ◌∙◌, subst, arith}
use Rattle.std.proofs.lemmas.Bool.{false≢true}
use Rattle.std.proofs.lemmas.List.Sorted.{IsPermutation-refl, IsPermutation-cons, IsPermutation-trans, IsPermutation-middle}
use Rattle.kt_tuple.specs.declared.tuple.Tuple.{Tuple}
use Rattle.kt_tuple.specs.Op.{tuple_eq, tuple_eq_decides}
use Rattle.kt_history.proofs.Shared.{Contains-here, Contains-none}
use Rattle.kt_logs.specs.Bag.{without}

-- membership, one element at a time
pub Contains-there : {X : Type 0} (y x : X) (xs : List X) → Contains xs x → Contains (y ∷ xs) x
Contains-there y x xs h = (suc h.0, omega arith, h.2)

pub Contains-cases : {X : Type 0} (y x : X) (xs : List X) → Contains (y ∷ xs) x → (y ≡ x) ⊎ Contains xs x
Contains-cases y x xs (zero, below, e) = inl e
Contains-cases y x xs (suc k, below, e) = inr (k, omega arith, e)

-- what is in a bag can be taken out of it
pub takes : (u : Tuple) (bag : List Tuple) → Contains bag u → IsPermutation bag (u ∷ without u bag)
takes u [] h = absurd (Contains-none u h)
takes u (v ∷ bag) h = by (tuple_eq v u) refl (takes u bag)
  where
    by : (r : Bool) → tuple_eq v u ≡ r → (Contains bag u → IsPermutation bag (u ∷ without u bag)) → IsPermutation (v ∷ bag) (u ∷ cond r bag (v ∷ without u bag))
    by true e rest = subst (λ x. IsPermutation (v ∷ bag) (x ∷ bag)) ((tuple_eq_decides v u).0 e) (IsPermutation-refl (v ∷ bag))
    by false e rest =
        let there : Contains bag u = elim (Contains-cases v u bag h) [ inl q ↦ absurd (false≢true (sym e ∙ (tuple_eq_decides v u).1 q)) | inr w ↦ w ] in
        IsPermutation-trans (v ∷ bag) (v ∷ (u ∷ without u bag)) (u ∷ (v ∷ without u bag)) (IsPermutation-cons v bag (u ∷ without u bag) (rest there))
        (IsPermutation-middle (v ∷ []) u (without u bag))

-- a filter and what it keeps
pub Contains-filter : {X : Type 0} (p : X → Bool) (x : X) (xs : List X) → p x ≡ true → Contains xs x → Contains (filter p xs) x
Contains-filter p x [] e h = absurd (Contains-none x h)
Contains-filter p x (y ∷ xs) e h = by (p y) refl (Contains-filter p x xs e)
  where
    by : (r : Bool) → p y ≡ r → (Contains xs x → Contains (filter p xs) x) → Contains (cond r (y ∷ filter p xs) (filter p xs)) x
    by true _ rest =
        elim (Contains-cases y x xs h) [
          | inl q ↦ subst (λ z. Contains (z ∷ filter p xs) x) (sym q) (Contains-here x (filter p xs))
          | inr w ↦ Contains-there y x
              (filter p xs) (rest w)
        ]
    by false e' rest = elim (Contains-cases y x xs h) [ inl q ↦ absurd (false≢true (sym e' ∙ ap p q ∙ e)) | inr w ↦ rest w ]

pub Contains-unfilter : {X : Type 0} (p : X → Bool) (x : X) (xs : List X) → Contains (filter p xs) x → Contains xs x
Contains-unfilter p x [] h = h
Contains-unfilter p x (y ∷ xs) h = by (p y) (Contains-unfilter p x xs) h
  where
    by : (r : Bool) → (Contains (filter p xs) x → Contains xs x) → Contains (cond r (y ∷ filter p xs) (filter p xs)) x → Contains (y ∷ xs) x
    by true rest k =
        elim (Contains-cases y x (filter p xs) k) [
          | inl q ↦ subst (λ z. Contains (z ∷ xs) x) (sym q) (Contains-here x xs)
          | inr w ↦ Contains-there y x xs
              (rest w)
        ]
    by false rest k = Contains-there y x xs (rest k)

-- a filter commutes with taking out, where it keeps the tuple, and does not see it otherwise
pub filter-without_kept : (p : Tuple → Bool) (u : Tuple) (bag : List Tuple) → p u ≡ true → filter p (without u bag) ≡ without u (filter p bag)
filter-without_kept p u [] e = refl
filter-without_kept p u (v ∷ bag) e = by (tuple_eq v u) refl (p v) refl (filter-without_kept p u bag e)
  where
    by : (r : Bool) → tuple_eq v u ≡ r → (k : Bool) → p v ≡ k → filter p (without u bag) ≡ without u (filter p bag)
        → filter p (cond r bag (v ∷ without u bag)) ≡ without u (cond k (v ∷ filter p bag) (filter p bag))
    by true er true ek rest = rw er refl
    by true er false ek rest = absurd (false≢true (sym ek ∙ ap p ((tuple_eq_decides v u).0 er) ∙ e))
    by false er true ek rest = rw (er, ek) (ap (λ l. v ∷ l) rest)
    by false er false ek rest = rw ek rest

pub filter-without_other : (p : Tuple → Bool) (u : Tuple) (bag : List Tuple) → p u ≡ false → filter p (without u bag) ≡ filter p bag
filter-without_other p u [] e = refl
filter-without_other p u (v ∷ bag) e = by (tuple_eq v u) refl (filter-without_other p u bag e)
  where
    by : (r : Bool) → tuple_eq v u ≡ r → filter p (without u bag) ≡ filter p bag
        → filter p (cond r bag (v ∷ without u bag)) ≡ cond (p v) (v ∷ filter p bag) (filter p bag)
    by true er rest = rw (ap p ((tuple_eq_decides v u).0 er) ∙ e) refl
    by false er rest = rw rest refl
