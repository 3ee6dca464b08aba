-- How many acts the nodes before one hold, of a front of the scene's nodes.
-- Cited by `parts::are_its_acts`, `parts::room_behind`.
use Rattle.std.proofs.Common.{◌≡◌, ℕ, zero, suc, ◌+◌, ◌<◌, ◌≤◌, Bool, true, false, cond, List, [], ◌∷◌, ◌++◌, length, map, filter, take, drop, get_or, refl}
use Rattle.std.proofs.Common.{sym, ap, ◌∙◌, subst, arith, take-append-drop}
use Rattle.std.proofs.Common.{Bor}
use Rattle.std.specs.Prelude.{◌&&◌}
use Rattle.std.specs.List.{list_all}
use Rattle.std.proofs.lemmas.List.{map-append}
use Rattle.std.proofs.lemmas.List.Elements.{filter-append, filter_more}
use Rattle.kt_tuple.specs.declared.node.NodeId.{NodeId}
use Rattle.kt_store.specs.Content.{Content}
use Rattle.kt_model.specs.Cut.{permanent_length}
use Rattle.kt_model.specs.Resumed.{all_held, sum_of}

sum-append : (xs ys : List ℕ) → sum_of (xs ++ ys) ≡ sum_of xs + sum_of ys
unfolding sum_of
sum-append [] ys = omega arith
sum-append (x ∷ xs) ys = let rest = sum-append xs ys in omega (arith, rest)

held-append : (c : Content) (xs ys : List NodeId) → all_held c (xs ++ ys) ≡ all_held c xs + all_held c ys
held-append c xs ys = ap sum_of (map-append (permanent_length c) xs ys) ∙ sum-append (map (permanent_length c) xs) (map (permanent_length c) ys)

pub held-none : (c : Content) → all_held c [] ≡ 0
unfolding sum_of
held-none c = refl

held-one : (c : Content) (p : NodeId) → all_held c (p ∷ []) ≡ permanent_length c p
unfolding sum_of
held-one c p = omega arith

module _ (c : Content) (passes : NodeId → Bool) (nodes : List NodeId) where
  -- a node that passes adds its acts
  pub held-passing : (i : ℕ) (d : NodeId) → i < length nodes → passes (get_or nodes i d) ≡ true
      → all_held c (filter passes (take (i + 1) nodes)) ≡ all_held c (filter passes (take i nodes)) + permanent_length c (get_or nodes i d)
  held-passing i d lt is =
      let p = get_or nodes i d in
      let one = held-one c p in
      let both = held-append c (filter passes (take i nodes)) (p ∷ []) in
      ap (all_held c) (filter_more passes nodes i d lt) ∙ ap (λ b. all_held c (filter passes (take i nodes) ++ cond b (p ∷ []) [])) is
      ∙ omega (arith, one, both)

  -- another one adds none
  pub held-other : (i : ℕ) (d : NodeId) → i < length nodes → passes (get_or nodes i d) ≡ false
      → all_held c (filter passes (take (i + 1) nodes)) ≡ all_held c (filter passes (take i nodes))
  held-other i d lt is =
      let p = get_or nodes i d in
      let none = held-none c in
      let both = held-append c (filter passes (take i nodes)) [] in
      ap (all_held c) (filter_more passes nodes i d lt) ∙ ap (λ b. all_held c (filter passes (take i nodes) ++ cond b (p ∷ []) [])) is
      ∙ omega (arith, none, both)

  -- a front holds no more than all
  pub held-front : (i : ℕ) → all_held c (filter passes (take i nodes)) ≤ all_held c (filter passes nodes)
  held-front i =
      let split : all_held c (filter passes nodes) ≡ all_held c (filter passes (take i nodes) ++ filter passes (drop i nodes)) =
      ap (λ l. all_held c (filter passes l)) (sym (take-append-drop i nodes)) ∙ ap (all_held c) (filter-append passes (take i nodes) (drop i nodes)) in
      let both = held-append c (filter passes (take i nodes)) (filter passes (drop i nodes)) in
      omega (arith, split, both)

-- a test of what is lent
pub all-lent : {X : Type 0} (test : X → Bool) (lent : List (Bor X))
    → list_all (λ (x : Bor X). test x.now) lent ≡ list_all test (map (λ (x : Bor X). x.now) lent)
all-lent test [] = refl
all-lent test (x ∷ later) = ap (λ b. test x.now && b) (all-lent test later)
