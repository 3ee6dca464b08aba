-- What stands beside a place, and what becomes of it where a place is put behind all others, and where one is taken out.
-- Cited by Bags, Linked, Numbered, Passing, Rechained, Stays, Tables; other crates.
use Rattle.std.proofs.Common.{◌≡◌, ◌≢◌, ℕ, zero, suc, ◌<◌, List, [], ◌∷◌, ◌++◌, length, set, Option, None, Some, refl, sym, ap, ◌∙◌, arith, ◌⊎◌, inl, inr}
use Rattle.std.specs.List.{slice_get}
use Rattle.std.proofs.lemmas.Option.{none-some, same_Some}
use Rattle.kt_space.specs.auxiliary.Chaining.{Has, IsAfter, IsApart, Beside}

-- reading a list with one item more, or one other item
pub length-more : {A : Type 0} (xs : List A) (y : A) → length (xs ++ y ∷ []) ≡ suc (length xs)
length-more [] y = refl
length-more (x ∷ xs) y = ap suc (length-more xs y)

pub read_pushed : {A : Type 0} (xs : List A) (y : A) → slice_get (xs ++ y ∷ []) (length xs) ≡ Some y
read_pushed [] y = refl
read_pushed (x ∷ xs) y = read_pushed xs y

pub read_before : {A : Type 0} (xs : List A) (y : A) (i : ℕ) → i < length xs → slice_get (xs ++ y ∷ []) i ≡ slice_get xs i
read_before [] y i lt = absurd (omega arith)
read_before (x ∷ xs) y zero lt = refl
read_before (x ∷ xs) y (suc i) lt = read_before xs y i (omega arith)

pub read_same : {A : Type 0} (xs : List A) (i : ℕ) (y : A) → i < length xs → slice_get (set xs i y) i ≡ Some y
read_same [] i y lt = absurd (omega arith)
read_same (x ∷ xs) zero y lt = refl
read_same (x ∷ xs) (suc i) y lt = read_same xs i y (omega arith)

pub read_other : {A : Type 0} (xs : List A) (i j : ℕ) (y : A) → j ≢ i → slice_get (set xs i y) j ≡ slice_get xs j
read_other [] i j y ne = refl
read_other (x ∷ xs) zero zero y ne = absurd (ne refl)
read_other (x ∷ xs) zero (suc j) y ne = refl
read_other (x ∷ xs) (suc i) zero y ne = refl
read_other (x ∷ xs) (suc i) (suc j) y ne = read_other xs i j y (λ e. ne (ap suc e))

-- a place has one group
pub one_group : {A : Type 0} (gs : List (Option A)) (i : ℕ) (g h : A) → Has gs i g → Has gs i h → g ≡ h
one_group gs i g h a b = same_Some g h (same_Some (Some g) (Some h) (sym a ∙ b))

-- which numbers are equal
pub decide : (a b : ℕ) → (a ≡ b) ⊎ (a ≢ b)
decide zero zero = inl refl
decide zero (suc b) = inr (λ e. omega arith)
decide (suc a) zero = inr (λ e. omega arith)
decide (suc a) (suc b) = elim (decide a b) [ inl e ↦ inl (ap suc e) | inr n ↦ inr (λ e. n (omega arith)) ]

pub decide_at : (a b : Option ℕ) → (a ≡ b) ⊎ (a ≢ b)
decide_at None None = inl refl
decide_at None (Some b) = inr (λ e. none-some b e)
decide_at (Some a) None = inr (λ e. none-some a (sym e))
decide_at (Some a) (Some b) = elim (decide a b) [ inl e ↦ inl (ap Some e) | inr n ↦ inr (λ e. n (same_Some a b e)) ]

-- what stands beside a place is one
pub one_before : {A : Type 0} (gs : List (Option A)) (g : A) (a b to : Option ℕ) → Beside gs g a to → Beside gs g b to → a ≡ b
one_before gs g None None to x y = refl
one_before gs g None (Some j) to x y = absurd (x.between j y.starts tt y.apart)
one_before gs g (Some i) None to x y = absurd (y.between i x.starts tt x.apart)
one_before gs g (Some i) (Some j) to x y = ap Some (at i j (λ lt. x.between j y.starts lt y.apart) (λ lt. y.between i x.starts lt x.apart))
  where
    at : (i j : ℕ) → (i < j → ⊥) → (j < i → ⊥) → i ≡ j
    at i j f h = omega (arith, f, h)

pub one_after : {A : Type 0} (gs : List (Option A)) (g : A) (from a b : Option ℕ) → Beside gs g from a → Beside gs g from b → a ≡ b
one_after gs g from None None x y = refl
one_after gs g from None (Some j) x y = absurd (x.between j y.ends (later from j y.apart) tt)
  where
    later : (from : Option ℕ) (j : ℕ) → IsApart from (Some j) → IsAfter j from
    later None j h = tt
    later (Some i) j h = h
one_after gs g from (Some i) None x y = absurd (y.between i x.ends (later from i x.apart) tt)
  where
    later : (from : Option ℕ) (j : ℕ) → IsApart from (Some j) → IsAfter j from
    later None j h = tt
    later (Some i) j h = h
one_after gs g from (Some i) (Some j) x y =
    ap Some (at i j (λ lt. x.between j y.ends (later from j y.apart) lt) (λ lt. y.between i x.ends (later from i x.apart) lt))
  where
    later : (from : Option ℕ) (j : ℕ) → IsApart from (Some j) → IsAfter j from
    later None j h = tt
    later (Some i) j h = h

    at : (i j : ℕ) → (j < i → ⊥) → (i < j → ⊥) → i ≡ j
    at i j f h = omega (arith, f, h)
