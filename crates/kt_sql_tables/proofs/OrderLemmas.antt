-- Rows in any order, sorted.
-- Cited by AnswerLemmas, HeldLemmas.
use Rattle.std.proofs.Common.{◌≡◌, zero, suc, Bool, true, false, cond, List, [], ◌∷◌, refl, ap, ◌∙◌, arith, Ordering, Less, Equal, Greater, is_lt, is_gt}
use Rattle.std.proofs.Common.{IsPermutation, IsSorted}
use Rattle.std.specs.List.{AllByRecursion}
use Rattle.std.specs.Cmp.{IsTotalOrder}
use Rattle.std.specs.Ordering.{ordering_reverse}
use Rattle.std.proofs.lemmas.Cmp.{upto}
use Rattle.std.proofs.lemmas.List.Sorted.{IsPermutation-trans, IsPermutation-sym}
use Rattle.sqlite_trees.specs.Tree.{IsAscending}
use Rattle.sqlite_keyed.specs.Lists.{insert_sorted, sort_by}
use Rattle.sqlite_keyed.proofs.ListLemmas.{all_weaker}
use Rattle.sqlite_keyed.proofs.SortLemmas.{sorted_unique, IsPermutation-sort_by}

pub all_inserted : {X : Type 0} (P : X → Type 0) (cmp : X → X → Ordering) (x : X) (xs : List X) → P x → AllByRecursion P xs
    → AllByRecursion P (insert_sorted cmp x xs)
all_inserted P cmp x [] h all = (h, tt)
all_inserted {X} P cmp x (y ∷ ys) h all = there (is_gt (cmp x y)) (all_inserted P cmp x ys h all.1)
  where
    there : (b : Bool) → AllByRecursion P (insert_sorted cmp x ys) → AllByRecursion P (cond b (y ∷ insert_sorted cmp x ys) (x ∷ y ∷ ys))
    there true later = (all.0, later)
    there false later = (h, all)

module _ {X : Type 0} (cmp : X → X → Ordering) (total : IsTotalOrder cmp) where
  abbrev AtMost : X → X → Type 0
  AtMost a b = is_gt (cmp a b) ≡ false

  above : (o : Ordering) → is_gt o ≡ true → is_gt (ordering_reverse o) ≡ false
  above Less h = absurd cc
  above Equal h = absurd cc
  above Greater h = refl

  not_less : (o : Ordering) → is_gt o ≡ false → is_lt (ordering_reverse o) ≡ false
  not_less Less h = refl
  not_less Equal h = refl
  not_less Greater h = absurd cc

  inserted_rises : (x : X) (xs : List X) → IsAscending AtMost xs → IsAscending AtMost (insert_sorted cmp x xs)
  inserted_rises x [] up = (tt, tt)
  inserted_rises x (y ∷ ys) up = there (is_gt (cmp x y)) refl (inserted_rises x ys up.1)
    where
      there : (b : Bool) → is_gt (cmp x y) ≡ b → IsAscending AtMost (insert_sorted cmp x ys)
          → IsAscending AtMost (cond b (y ∷ insert_sorted cmp x ys) (x ∷ y ∷ ys))
      there true high later = (all_inserted (AtMost y) cmp x ys (ap is_gt (total.antisymm y x) ∙ above _ high) up.0, later)
      there false low later = ((low, all_weaker _ (AtMost x) (λ z. upto total x y z low) ys up.0), up)

  sorted_rises : (xs : List X) → IsAscending AtMost (sort_by cmp xs)
  sorted_rises [] = tt
  sorted_rises (x ∷ xs) = inserted_rises x (sort_by cmp xs) (sorted_rises xs)

  rising_sorted : (xs : List X) → IsAscending AtMost xs → IsSorted cmp xs
  rising_sorted [] up = λ k d low within. absurd (omega arith)
  rising_sorted (x ∷ []) up = λ k d low within. absurd (omega arith)
  rising_sorted (x ∷ y ∷ ys) up = there (rising_sorted (y ∷ ys) up.1)
    where
      there : IsSorted cmp (y ∷ ys) → IsSorted cmp (x ∷ y ∷ ys)
      there later zero d low within = ap is_lt (total.antisymm y x) ∙ not_less _ up.0.0
      there later (suc k) d low within = rw Rattle.std.proofs.Common.add-one (rw Rattle.std.proofs.Common.add-one at (later k d (omega arith) (omega arith)))

  -- a list that rises is what sorting gives of its elements in any order
  pub sorted_again : (xs ys : List X) → IsAscending (λ a b. cmp a b ≡ Less) ys → IsPermutation ys xs → sort_by cmp xs ≡ ys
  sorted_again xs ys strict same =
      sorted_unique cmp total ys (sort_by cmp xs) strict (IsPermutation-trans _ _ _ same (IsPermutation-sym _ _ (IsPermutation-sort_by cmp total xs)))
      (rising_sorted (sort_by cmp xs) (sorted_rises xs))
