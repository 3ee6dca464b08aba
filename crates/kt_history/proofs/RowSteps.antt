-- How a table of rows changes, one row at a time.
-- Cited by Keeping, `rows::append`, `rows::reserve_row`, `rows::shorten_at`.
use Rattle.std.proofs.Common.{◌≡◌, ℕ, ◌<◌, List, [], length, get_or, set, sym, ap, ◌∙◌, subst, inl, inr, arith}
use Rattle.std.specs.declared.vec.Vec.{Vec}
use Rattle.std.specs.declared.alloc.Global.{Global}
use Rattle.std.proofs.lemmas.List.{map-set, get_or-map, get_or-set_same, get_or-set_other}
use Rattle.std.proofs.lemmas.List.{length-map}
use Rattle.std.proofs.lemmas.Bool.{cases_eq}
use Rattle.kt_history.specs.auxiliary.Marks.{rows_of, row_at}

-- the row at a place is that of the vector there
pub row_at-rows_of : (xs : List (Vec ℕ Global)) (i : ℕ) (v : Vec ℕ Global) → i < length xs → v ≡ get_or xs i v → row_at (rows_of xs) i ≡ v.items
row_at-rows_of xs i v lt e =
    get_or-map (λ (row : Vec ℕ Global). row.items) xs i v [] lt ∙ ap (λ (row : Vec ℕ Global). row.items) (sym e)

-- one vector changes
pub rows_of-set : (xs : List (Vec ℕ Global)) (i : ℕ) (w v : Vec ℕ Global) (f : List ℕ → List ℕ) → i < length xs → w ≡ get_or xs i w → v.items ≡ f w.items
    → rows_of (set xs i v) ≡ set (rows_of xs) i (f (row_at (rows_of xs) i))
rows_of-set xs i w v f lt at changed =
    map-set (λ (row : Vec ℕ Global). row.items) xs i v
    ∙ ap (set (rows_of xs) i) (changed ∙ ap f (sym (row_at-rows_of xs i w lt at)))

-- a vector with the same items changes no row
pub row_at-set_same : (xs : List (Vec ℕ Global)) (i : ℕ) (w v : Vec ℕ Global) → i < length xs → w ≡ get_or xs i w → v.items ≡ w.items → (k : ℕ)
    → row_at (rows_of (set xs i v)) k ≡ row_at (rows_of xs) k
row_at-set_same xs i w v lt at same k =
    ap (λ rows. row_at rows k) (rows_of-set xs i w v (λ row. row) lt at same)
    ∙ (elim (cases_eq k i) [
      | inl here ↦
          let P : ℕ → Type 0 = λ j. get_or (set (rows_of xs) i (row_at (rows_of xs) i)) j [] ≡ get_or (rows_of xs) j [] in
          subst P (sym here) (get_or-set_same (rows_of xs) i (row_at (rows_of xs) i) [] (omega (arith, length-map xs (λ (row : Vec ℕ Global). row.items), lt)))
      | inr other ↦ get_or-set_other (rows_of xs) i k (row_at (rows_of xs) i) [] other
    ])
