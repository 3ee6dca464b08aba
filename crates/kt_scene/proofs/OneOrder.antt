-- Texts in rising order stand in one order only.
-- Cited by OneReport.
use Rattle.std.proofs.Common.{◌≡◌, ℕ, suc, ◌+◌, ◌≤◌, false, cond, List, [], ◌∷◌, get_or, sum_by, Contains, IsPermutation, Ordering, Less, Equal, Greater}
use Rattle.std.proofs.Common.{refl, sym, ap, ◌∙◌, subst, add-one, arith}
use Rattle.std.specs.List.Sorted.{IsSorted}
use Rattle.std.specs.Ordering.{nat_cmp, is_eq, is_lt, ordering_reverse, ordering_then}
use Rattle.std.specs.Cmp.Lexicographic.{slice_cmp}
use Rattle.std.proofs.lemmas.Cmp.{nat_list_cmp_total, tied_itself, ranked}
use Rattle.std.proofs.lemmas.List.Sums.{sum_by-cons}
use Rattle.std.proofs.lemmas.List.Sorted.{ranks_by, sorted_far, sum_by-IsPermutation}

abbrev Text : Type 0
Text = List ℕ

abbrev order : Text → Text → Ordering
order = slice_cmp nat_cmp

-- texts that tie are one
tied : (x y : Text) → order x y ≡ Equal → x ≡ y
tied [] [] e = refl
tied [] (b ∷ y) e = absurd cc
tied (a ∷ x) [] e = absurd cc
tied (a ∷ x) (b ∷ y) e = by (nat_cmp a b) refl (tied x y) e
  where
    by : (r : Ordering) → r ≡ nat_cmp a b → (order x y ≡ Equal → x ≡ y) → ordering_then r (order x y) ≡ Equal → a ∷ x ≡ b ∷ y
    by Less is rest e = absurd cc
    by Equal is rest e = let same : a ≡ b = ranked a b Equal is in ap (λ c. c ∷ x) same ∙ ap (λ l. b ∷ l) (rest e)
    by Greater is rest e = absurd cc

-- how often a text is among texts
abbrev one : Text → Text → ℕ
one v u = cond (is_eq (order u v)) 1 0

abbrev times : Text → List Text → ℕ
times v xs = sum_by (one v) xs

times-cons : (v u : Text) (xs : List Text) → times v (u ∷ xs) ≡ one v u + times v xs
times-cons v u xs = sum_by-cons (one v) u xs

one-same : (u : Text) → one u u ≡ 1
one-same u = ap (λ r. let n : ℕ = cond (is_eq r) 1 0 in n) (tied_itself nat_list_cmp_total u)

-- the first text of those that rise is the least
least : (v x : Text) (xs : List Text) → IsSorted order (x ∷ xs) → Contains (x ∷ xs) v → is_lt (order v x) ≡ false
least v x xs up (k, within, is) =
    let far : is_lt (order (get_or (x ∷ xs) k v) x) ≡ false =
    sorted_far (λ a b. is_lt (order a b)) (ranks_by nat_list_cmp_total (λ (t : Text). t)) (x ∷ xs) up 0 k v (omega arith) within in
    subst (λ t. is_lt (order t x) ≡ false) is far

neither : (x y : Text) → is_lt (order x y) ≡ false → is_lt (order y x) ≡ false → x ≡ y
neither x y a b = tied x y (by (order x y) (order y x) (nat_list_cmp_total.antisymm x y) a b)
  where
    by : (r s : Ordering) → r ≡ ordering_reverse s → is_lt r ≡ false → is_lt s ≡ false → r ≡ Equal
    by Equal s e a b = refl
    by Less s e a b = absurd cc
    by Greater Less e a b = absurd cc
    by Greater Equal e a b = absurd cc
    by Greater Greater e a b = absurd cc

-- what is among texts
found : (v : Text) (xs : List Text) → 1 ≤ times v xs → Contains xs v
found v [] h = absurd (omega (arith, h))
found v (x ∷ xs) h = go (order x v) refl (found v xs)
  where
    go : (r : Ordering) → order x v ≡ r → (1 ≤ times v xs → Contains xs v) → Contains (x ∷ xs) v
    go Equal e again = (0, omega arith, tied x v e)
    go Less e again =
        let none : one v x ≡ 0 = ap (λ s. let n : ℕ = cond (is_eq s) 1 0 in n) e in
        let c = again (omega (arith, h, times-cons v x xs, none)) in (suc c.0, omega (arith, c.1), c.2)
    go Greater e again =
        let none : one v x ≡ 0 = ap (λ s. let n : ℕ = cond (is_eq s) 1 0 in n) e in
        let c = again (omega (arith, h, times-cons v x xs, none)) in (suc c.0, omega (arith, c.1), c.2)

rest_sorted : (x : Text) (xs : List Text) → IsSorted order (x ∷ xs) → IsSorted order xs
rest_sorted x xs up = λ k d low high.
    let higher : is_lt (order (get_or (x ∷ xs) (suc k + 1) d) (get_or xs k d)) ≡ false = up (suc k) d (omega arith) (omega (arith, high)) in
    subst (λ n. is_lt (order (get_or xs n d) (get_or xs k d)) ≡ false) (sym (add-one k))
    (subst (λ n. is_lt (order (get_or (x ∷ xs) n d) (get_or xs k d)) ≡ false) (add-one (suc k)) higher)

same_sorted : (xs ys : List Text) → IsSorted order xs → IsSorted order ys → ((v : Text) → times v xs ≡ times v ys) → xs ≡ ys
same_sorted [] [] up vp h = refl
same_sorted [] (y ∷ ys) up vp h = absurd (omega (arith, h y, times-cons y y ys, one-same y))
same_sorted (x ∷ xs) [] up vp h = absurd (omega (arith, h x, times-cons x x xs, one-same x))
same_sorted (x ∷ xs) (y ∷ ys) up vp h =
    let x_there = found x (y ∷ ys) (omega (arith, h x, times-cons x x xs, one-same x)) in
    let y_there = found y (x ∷ xs) (omega (arith, h y, times-cons y y ys, one-same y)) in
    let first : x ≡ y = neither x y (least x y ys vp x_there) (least y x xs up y_there) in
    let firsts : (v : Text) → one v x ≡ one v y = λ v. ap (one v) first in
    let rest : xs ≡ ys = same_sorted xs ys (rest_sorted x xs up) (rest_sorted y ys vp)
    (λ v. omega (arith, h v, times-cons v x xs, times-cons v y ys, firsts v)) in
    ap (λ t. t ∷ xs) first ∙ ap (λ l. y ∷ l) rest

-- texts that rise stand in one order
pub one_order : (xs ys : List Text) → IsPermutation xs ys → IsSorted order xs → IsSorted order ys → xs ≡ ys
one_order xs ys same up vp = same_sorted xs ys up vp (λ v. sym (sum_by-IsPermutation (one v) xs ys same))
