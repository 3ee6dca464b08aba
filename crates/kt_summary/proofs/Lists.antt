-- What std lacks on lists.
-- Cited by Listed, Noting, `waits::push_waits`.
use Rattle.std.proofs.Common.{◌≡◌, ◌≢◌, ℕ, zero, suc, ◌<◌, List, [], ◌∷◌, ◌++◌, set, length, slice_get, flat_map, All, Contains}
use Rattle.std.proofs.Common.{Some, ◌+◌, take, get_or, refl, sym, ap, subst, ◌∙◌, inl, inr, arith}
use Rattle.std.proofs.lemmas.List.{flat_map_more, take_more}
use Rattle.std.proofs.lemmas.List.Elements.{All-nil, All-append, Contains-append_left, Contains-append_right}
use Rattle.kt_history.proofs.Shared.{Contains-cons_cases, Contains-none}

pub slice_get-set_same : {X : Type 0} (xs : List X) (i : ℕ) (x : X) → i < length xs → slice_get (set xs i x) i ≡ Some x
slice_get-set_same [] i x lt = absurd (omega (arith, lt))
slice_get-set_same (y ∷ ys) zero x lt = refl
slice_get-set_same (y ∷ ys) (suc i) x lt = slice_get-set_same ys i x (omega (arith, lt))

pub slice_get-set_other : {X : Type 0} (xs : List X) (i k : ℕ) (x : X) → k ≢ i → slice_get (set xs i x) k ≡ slice_get xs k
slice_get-set_other [] i k x other = refl
slice_get-set_other (y ∷ ys) zero zero x other = absurd (other refl)
slice_get-set_other (y ∷ ys) zero (suc k) x other = refl
slice_get-set_other (y ∷ ys) (suc i) zero x other = refl
slice_get-set_other (y ∷ ys) (suc i) (suc k) x other = slice_get-set_other ys i k x (λ e. other (ap suc e))

-- what holds of all elements of each part holds of all elements of the whole
pub flat-all : {A B : Type 0} (P : B → Type 0) (f : A → List B) → ((a : A) → All P (f a)) → (xs : List A) → All P (flat_map f xs)
flat-all P f each [] = All-nil P
flat-all P f each (x ∷ xs) = All-append P (f x) (flat_map f xs) (each x) (flat-all P f each xs)

-- what is in a part is in the whole
pub flat-contains : {A B : Type 0} (f : A → List B) (xs : List A) (x : A) (y : B) → Contains xs x → Contains (f x) y → Contains (flat_map f xs) y
flat-contains f [] x y in_list in_part = absurd (Contains-none x in_list)
flat-contains {A} {B} f (z ∷ zs) x y in_list in_part = elim (Contains-cons_cases z zs x in_list) [
  | inl here ↦
      let P : A → Type 0 = λ a. Contains (f a) y in
      Contains-append_left (f z) (flat_map f zs) y (subst P (sym here) in_part)
  | inr there ↦ Contains-append_right (f z) (flat_map f zs) y (flat-contains f zs x y there in_part)
]

-- one part more stands behind the others
pub flat-more : {A B : Type 0} (f : A → List B) (xs : List A) (k : ℕ) (d : A) (old now new : List B) → k < length xs
    → now ≡ old ++ flat_map f (take k xs) → new ≡ now ++ f (get_or xs k d) → new ≡ old ++ flat_map f (take (k + 1) xs)
flat-more {A} {B} f xs k d old now new lt so_far is =
    is
    ∙ ap (λ (ys : List B). ys ++ f (get_or xs k d)) so_far
    ∙ flat_map_more f old (take k xs) (get_or xs k d)
    ∙ ap (λ (zs : List A). old ++ flat_map f zs) (sym (take_more xs k d lt))
