-- Looking through a list from its front.
-- Cited by `traffic::is_kept`, `traffic::is_on_link`.
use Rattle.std.proofs.Common.{◌≡◌, ℕ, zero, suc, ◌+◌, ◌≤◌, Bool, true, false, List, [], ◌∷◌, take, length, slice_get, refl, ap, ◌∙◌, sym, add-one}
use Rattle.std.specs.Prelude.{◌||◌}
use Rattle.std.specs.List.{list_any}
use Rattle.std.proofs.lemmas.List.{take_all}
use Rattle.kt_stage.specs.auxiliary.Midway.{is_found}

no-more : {A : Type 0} (p : A → Bool) (xs : List A) (i : ℕ) → list_any p (take i xs) ≡ false → is_found p (slice_get xs i) ≡ false
    → list_any p (take (suc i) xs) ≡ false
no-more p [] i before here = refl
no-more p (x ∷ xs) zero before here = rw here refl
no-more p (x ∷ xs) (suc i) before here = by (p x) (λ e. no-more p xs i e here) before
  where
    by : (b : Bool) → (list_any p (take i xs) ≡ false → list_any p (take (suc i) xs) ≡ false)
        → (b || list_any p (take i xs)) ≡ false → (b || list_any p (take (suc i) xs)) ≡ false
    by true later e = e
    by false later e = later e

-- nothing was found so far, and is not found here
pub none_so_far : {A : Type 0} (p : A → Bool) (xs : List A) (i : ℕ) → list_any p (take i xs) ≡ false → is_found p (slice_get xs i) ≡ false
    → list_any p (take (i + 1) xs) ≡ false
none_so_far p xs i before here = rw (add-one i) (no-more p xs i before here)

-- it is found here
pub found_here : {A : Type 0} (p : A → Bool) (xs : List A) (i : ℕ) → is_found p (slice_get xs i) ≡ true → list_any p xs ≡ true
found_here p [] i here = absurd cc
found_here p (x ∷ xs) zero here = rw here refl
found_here p (x ∷ xs) (suc i) here = by (p x) (found_here p xs i here)
  where
    by : (b : Bool) → list_any p xs ≡ true → (b || list_any p xs) ≡ true
    by true later = refl
    by false later = later

-- nothing was found to the end
pub none_at_all : {A : Type 0} (p : A → Bool) (xs : List A) (i : ℕ) → list_any p (take i xs) ≡ false → length xs ≤ i → list_any p xs ≡ false
none_at_all p xs i none le = ap (list_any p) (sym (take_all i xs le)) ∙ none
