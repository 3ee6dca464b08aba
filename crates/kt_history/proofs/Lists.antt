-- What std lacks on lists.
-- Cited by Changes, Fronts, KeepingCuts, Logs, MarkSteps, Places, Runs, Sense, Survivors; other crates.
use Rattle.std.proofs.Common.{◌≡◌, ℕ, zero, suc, ◌+◌, ◌<◌, ◌==◌, Bool, true, List, [], ◌∷◌, ◌++◌, take, drop}
use Rattle.std.proofs.Common.{length, Some, refl, sym, ap, ◌∙◌, ◌⊎◌, inl, inr, arith, Contains, zero-add}
use Rattle.std.specs.List.{slice_get, list_all, list_any}
use Rattle.std.proofs.lemmas.Bool.{and_parts, and_from, or_cases, or_left, or_right, eqb-true, eq-eqb, false≢true}
use Rattle.std.proofs.lemmas.List.{append-nil}
use Rattle.std.proofs.lemmas.Option.{slice_get-get_or, slice_get_within, get_or_from_slice_get, none-some, same_Some}
use Rattle.std.proofs.Math.Seq.{append_snoc}

-- induction from the end of a list
pub snoc_ind : {X : Type 0} (P : List X → Type 0) → P [] → ((xs : List X) (x : X) → P xs → P (xs ++ x ∷ [])) → (xs : List X) → P xs
snoc_ind {X} P base step xs = go [] base xs where
  go : (front : List X) → P front → (rest : List X) → P (front ++ rest)
  go front p [] = rw append-nil p
  go front p (x ∷ rest) = rw append_snoc at (go (front ++ x ∷ []) (step front x p) rest)

pub slice_get-append_left : {X : Type 0} (xs ys : List X) (i : ℕ) → i < length xs → slice_get (xs ++ ys) i ≡ slice_get xs i
slice_get-append_left [] ys i h = absurd (omega (arith, h))
slice_get-append_left (x ∷ xs) ys zero h = refl
slice_get-append_left (x ∷ xs) ys (suc i) h = slice_get-append_left xs ys i (omega (arith, h))

-- an element of a list with one more at its end
pub slice_get-push_cases : {X : Type 0} (xs : List X) (y : X) (i : ℕ) (x : X) → slice_get (xs ++ y ∷ []) i ≡ Some x
    → ((i < length xs) × (slice_get xs i ≡ Some x)) ⊎ ((i ≡ length xs) × (y ≡ x))
slice_get-push_cases [] y zero x e = inr (refl, same_Some y x e)
slice_get-push_cases [] y (suc i) x e = absurd (none-some x e)
slice_get-push_cases (z ∷ xs) y zero x e = inl (omega arith, e)
slice_get-push_cases (z ∷ xs) y (suc i) x e = elim (slice_get-push_cases xs y i x e) [
  | inl h ↦ inl (omega (arith, h.0), h.1)
  | inr h ↦ inr (ap suc h.0, h.1)
]

-- an element of a front
pub slice_get-take : {X : Type 0} (k : ℕ) (xs : List X) (i : ℕ) (x : X) → slice_get (take k xs) i ≡ Some x → (i < k) × (slice_get xs i ≡ Some x)
slice_get-take zero xs i x e = absurd (none-some x e)
slice_get-take (suc k) [] i x e = absurd (none-some x e)
slice_get-take (suc k) (y ∷ xs) zero x e = (omega arith, e)
slice_get-take (suc k) (y ∷ xs) (suc i) x e = let h = slice_get-take k xs i x e in (omega (arith, h.0), h.1)

pub slice_get-take_below : {X : Type 0} (k : ℕ) (xs : List X) (i : ℕ) → i < k → slice_get (take k xs) i ≡ slice_get xs i
slice_get-take_below zero xs i h = absurd (omega (arith, h))
slice_get-take_below (suc k) [] i h = refl
slice_get-take_below (suc k) (y ∷ xs) zero h = refl
slice_get-take_below (suc k) (y ∷ xs) (suc i) h = slice_get-take_below k xs i (omega (arith, h))

pub slice_get-from_Contains : {X : Type 0} (xs : List X) (x : X) → Contains xs x → (k : ℕ) × (slice_get xs k ≡ Some x)
slice_get-from_Contains xs x c = (c.0, slice_get-get_or xs c.0 x c.1 ∙ ap Some c.2)

pub Contains-from_slice_get : {X : Type 0} (xs : List X) (k : ℕ) (x : X) → slice_get xs k ≡ Some x → Contains xs x
Contains-from_slice_get xs k x e = (k, slice_get_within xs k x e, get_or_from_slice_get xs k x x e)

pub Contains-from_take : {X : Type 0} (k : ℕ) (xs : List X) (x : X) → Contains (take k xs) x → Contains xs x
Contains-from_take k xs x c =
    let at = slice_get-from_Contains (take k xs) x c in
    Contains-from_slice_get xs at.0 x (slice_get-take k xs at.0 x at.1).1

-- what stands in a list stands in its front of k, or from the place k on
pub Contains-none : {X : Type 0} (x : X) → Contains [] x → ⊥
Contains-none x c = absurd (omega (arith, c.1))

pub Contains-here : {X : Type 0} (x : X) (xs : List X) → Contains (x ∷ xs) x
Contains-here x xs = (0, omega arith, refl)

pub Contains-there : {X : Type 0} (y : X) (xs : List X) (x : X) → Contains xs x → Contains (y ∷ xs) x
Contains-there y xs x c = let at = slice_get-from_Contains xs x c in Contains-from_slice_get (y ∷ xs) (suc at.0) x at.1

pub Contains-cons_cases : {X : Type 0} (y : X) (xs : List X) (x : X) → Contains (y ∷ xs) x → (y ≡ x) ⊎ Contains xs x
Contains-cons_cases y xs x c = let at = slice_get-from_Contains (y ∷ xs) x c in go at.0 at.1 where
  go : (k : ℕ) → slice_get (y ∷ xs) k ≡ Some x → (y ≡ x) ⊎ Contains xs x
  go zero e = inl (same_Some y x e)
  go (suc k) e = inr (Contains-from_slice_get xs k x e)

pub list_all-at : {X : Type 0} (p : X → Bool) (xs : List X) (x : X) → list_all p xs ≡ true → Contains xs x → p x ≡ true
list_all-at p [] x e c = absurd (Contains-none x c)
list_all-at p (y ∷ xs) x e c =
    let parts = and_parts (p y) (list_all p xs) e in
    elim (Contains-cons_cases y xs x c) [
      | inl here ↦ ap p (sym here) ∙ parts.0
      | inr there ↦ list_all-at p xs x parts.1 there
    ]

pub list_all-from : {X : Type 0} (p : X → Bool) (xs : List X) → ((x : X) → Contains xs x → p x ≡ true) → list_all p xs ≡ true
list_all-from p [] f = refl
list_all-from p (y ∷ xs) f =
    and_from (p y) (list_all p xs) (f y (Contains-here y xs)) (list_all-from p xs (λ x c. f x (Contains-there y xs x c)))

pub list_any-from_Contains : (xs : List ℕ) (n : ℕ) → Contains xs n → list_any (λ m. m == n) xs ≡ true
list_any-from_Contains [] n c = absurd (Contains-none n c)
list_any-from_Contains (y ∷ xs) n c = elim (Contains-cons_cases y xs n c) [
  | inl here ↦ or_left (y == n) (list_any (λ m. m == n) xs) (eq-eqb y n here)
  | inr there ↦ or_right (y == n) (list_any (λ m. m == n) xs) (list_any-from_Contains xs n there)
]

pub Contains-from_list_any : (xs : List ℕ) (n : ℕ) → list_any (λ m. m == n) xs ≡ true → Contains xs n
Contains-from_list_any [] n e = absurd (false≢true e)
Contains-from_list_any (y ∷ xs) n e = elim (or_cases (y == n) (list_any (λ m. m == n) xs) e) [
  | inl here ↦ (0, omega arith, eqb-true y n here)
  | inr there ↦ Contains-there y xs n (Contains-from_list_any xs n there)
]

pub slice_get-drop : {X : Type 0} (k : ℕ) (xs : List X) (i : ℕ) → slice_get (drop k xs) i ≡ slice_get xs (k + i)
slice_get-drop zero xs i = ap (slice_get xs) (sym (zero-add i))
slice_get-drop (suc k) [] i = refl
slice_get-drop (suc k) (x ∷ xs) i =
    let same : suc (k + i) ≡ suc k + i = omega arith in
    slice_get-drop k xs i ∙ ap (slice_get (x ∷ xs)) same

pub slice_get-append_right : {X : Type 0} (xs ys : List X) (i : ℕ) → slice_get (xs ++ ys) (length xs + i) ≡ slice_get ys i
slice_get-append_right [] ys i = ap (slice_get ys) (zero-add i)
slice_get-append_right (x ∷ xs) ys i =
    let same : suc (length xs) + i ≡ suc (length xs + i) = omega arith in
    ap (slice_get (x ∷ (xs ++ ys))) same ∙ slice_get-append_right xs ys i
