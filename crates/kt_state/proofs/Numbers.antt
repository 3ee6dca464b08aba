-- Numbers in a row.
-- Cited by loading.rt, saving.rt; other crates.
use Rattle.std.proofs.Common.{◌≡◌, ℕ, zero, suc, ◌+◌, List, [], ◌∷◌, ◌++◌, append-nil, map, length, refl, ap, ◌∙◌, arith}
use Rattle.std.specs.List.{flat_map}
use Rattle.std.proofs.lemmas.List.{map-append}
use Rattle.std.proofs.lemmas.Grind.{flat_map-append}
use Rattle.kt_state.specs.Labels.{numbers, table_size}

-- one number more stands behind the others
pub one_more : (from n : ℕ) → numbers from (suc n) ≡ numbers from n ++ (from + n) ∷ []
unfolding numbers
one_more from zero =
    let h : from ≡ from + zero = omega (arith) in
    ap (λ k. k ∷ []) h
one_more from (suc n) =
    let h : suc from + n ≡ from + suc n = omega (arith) in
    ap (λ l. from ∷ l) (one_more (suc from) n ∙ ap (λ k. numbers (suc from) n ++ k ∷ []) h)

pub none : (from : ℕ) → numbers from 0 ≡ []
unfolding numbers
none from = refl

-- the same from 1 on, as a loop counts
pub from_one : (n : ℕ) → numbers 1 (n + 1) ≡ numbers 1 n ++ (n + 1) ∷ []
from_one n =
    let more : n + 1 ≡ suc n = omega (arith) in
    let h : 1 + n ≡ n + 1 = omega (arith) in
    ap (numbers 1) more ∙ one_more 1 n ∙ ap (λ k. numbers 1 n ++ k ∷ []) h

pub from_zero : (n : ℕ) → numbers 0 (n + 1) ≡ numbers 0 n ++ n ∷ []
from_zero n =
    let more : n + 1 ≡ suc n = omega (arith) in
    let h : 0 + n ≡ n = omega (arith) in
    ap (numbers 0) more ∙ one_more 0 n ∙ ap (λ k. numbers 0 n ++ k ∷ []) h

pub mapped_from_one : {A : Type 0} (f : ℕ → A) (n : ℕ) → map f (numbers 1 (n + 1)) ≡ map f (numbers 1 n) ++ f (n + 1) ∷ []
mapped_from_one f n = ap (map f) (from_one n) ∙ map-append f (numbers 1 n) ((n + 1) ∷ [])

pub mapped_from_zero : {A : Type 0} (f : ℕ → A) (n : ℕ) → map f (numbers 0 (n + 1)) ≡ map f (numbers 0 n) ++ f n ∷ []
mapped_from_zero f n = ap (map f) (from_zero n) ∙ map-append f (numbers 0 n) (n ∷ [])

pub mapped_none : {A : Type 0} (f : ℕ → A) (from : ℕ) → map f (numbers from 0) ≡ []
mapped_none f from = ap (map f) (none from)

pub flat_none : {A : Type 0} (f : ℕ → List A) (from : ℕ) → flat_map f (numbers from 0) ≡ []
flat_none f from = ap (flat_map f) (none from)

pub flat_from_one : {A : Type 0} (f : ℕ → List A) (n : ℕ) → flat_map f (numbers 1 (n + 1)) ≡ flat_map f (numbers 1 n) ++ f (n + 1)
flat_from_one f n =
    ap (flat_map f) (from_one n) ∙ flat_map-append f (numbers 1 n) ((n + 1) ∷ []) ∙ ap (λ l. flat_map f (numbers 1 n) ++ l) (append-nil (f (n + 1)))

-- a table has an entry for each number that a neighbour can have, and for 0
pub whole_table : {A : Type 0} (f : ℕ → A) → length (map f (numbers 0 table_size)) ≡ table_size
unfolding numbers
whole_table f = refl
