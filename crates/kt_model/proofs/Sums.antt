-- Checkpoints each of which is short enough with those before it in node order are short enough together.
-- Cited by Fitting, NeverUnfit, Together; other crates.
use Rattle.std.proofs.Common.{◌≡◌, ◌⊎◌, ℕ, zero, suc, ◌+◌, ◌<◌, ◌≤◌, ◌^◌, Bool, true, false, List, [], ◌∷◌, ◌++◌, length, map, filter, cond, Contains, inl, inr}
use Rattle.std.proofs.Common.{refl, sym, ap, ◌∙◌, subst, arith}
use Rattle.std.specs.List.{AllByRecursion, range_with_len}
use Rattle.std.proofs.lemmas.List.{append-nil, append_assoc, map-append}
use Rattle.kt_tuple.specs.declared.node.NodeId.{NodeId}
use Rattle.kt_tuple.specs.declared.node.NodeId.TheVariants as ids
use Rattle.kt_tuple.specs.Node.{is_before}
use Rattle.kt_store.specs.Content.{Content}
use Rattle.kt_scenario.specs.declared.step.TheConstants.{MAX_NOTES}
use Rattle.kt_scenario.specs.Scene.{SceneModel}
use Rattle.kt_model.specs.Cut.{permanent_length}
use Rattle.kt_model.specs.Resumed.{nodes_of, all_held, sum_of}

-- ---- node order

pub before_one_way : (a b : NodeId) → is_before a b ≡ true → is_before b a ≡ false
before_one_way (ids.Worker m) (ids.Worker n) h = grind (arith, h)
before_one_way (ids.Worker m) (ids.Shard n) h = refl
before_one_way (ids.Shard m) (ids.Worker n) h = absurd cc
before_one_way (ids.Shard m) (ids.Shard n) h = grind (arith, h)

pub not_before_itself : (a : NodeId) → is_before a a ≡ false
not_before_itself (ids.Worker m) = grind arith
not_before_itself (ids.Shard m) = grind arith

-- each node is before all that follow
abbrev pub AreInOrder : List NodeId → Type 0
AreInOrder [] = Unit {0}
AreInOrder (p ∷ later) = AllByRecursion (λ q. is_before p q ≡ true) later × AreInOrder later

after-shards : (k from n : ℕ) → k < from → AllByRecursion (λ q. is_before (ids.Shard k) q ≡ true) (map (λ i. ids.Shard i) (range_with_len from n))
after-shards k from zero below = tt
after-shards k from (suc n) below = (grind (arith, below), after-shards k (from + 1) n (omega (arith, below)))

before-shards : (k from n : ℕ) → AllByRecursion (λ q. is_before (ids.Worker k) q ≡ true) (map (λ i. ids.Shard i) (range_with_len from n))
before-shards k from zero = tt
before-shards k from (suc n) = (refl, before-shards k (from + 1) n)

after-workers : (k from n m : ℕ) → k < from
    → AllByRecursion (λ q. is_before (ids.Worker k) q ≡ true) (map (λ i. ids.Worker i) (range_with_len from n) ++ map (λ i. ids.Shard i) (range_with_len 1 m))
after-workers k from zero m below = before-shards k 1 m
after-workers k from (suc n) m below = (grind (arith, below), after-workers k (from + 1) n m (omega (arith, below)))

shards-rise : (from n : ℕ) → AreInOrder (map (λ i. ids.Shard i) (range_with_len from n))
shards-rise from zero = tt
shards-rise from (suc n) = (after-shards from (from + 1) n (omega arith), shards-rise (from + 1) n)

pub nodes-rise : (from n m : ℕ) → AreInOrder (map (λ i. ids.Worker i) (range_with_len from n) ++ map (λ i. ids.Shard i) (range_with_len 1 m))
nodes-rise from zero m = shards-rise 1 m
nodes-rise from (suc n) m = (after-workers from (from + 1) n m (omega arith), nodes-rise (from + 1) n m)

-- ---- what stands before a node

none-before : (p : NodeId) (later : List NodeId) → AllByRecursion (λ q. is_before p q ≡ true) later → filter (λ q. is_before q p) later ≡ []
none-before p [] all = refl
none-before p (q ∷ later) all =
    ap (λ b. cond b (q ∷ filter (λ r. is_before r p) later) (filter (λ r. is_before r p) later)) (before_one_way p q all.0) ∙ none-before p later all.1

here-before : (p q : NodeId) (xs later : List NodeId) → AllByRecursion (λ r. is_before q r ≡ true) (xs ++ p ∷ later) → is_before q p ≡ true
here-before p q [] later all = all.0
here-before p q (x ∷ xs) later all = here-before p q xs later all.1

-- just the nodes in front of it
front-before : (p : NodeId) (xs later : List NodeId) → AreInOrder (xs ++ p ∷ later) → filter (λ q. is_before q p) (xs ++ p ∷ later) ≡ xs
front-before p [] later rise =
    ap (λ b. cond b (p ∷ filter (λ r. is_before r p) later) (filter (λ r. is_before r p) later)) (not_before_itself p) ∙ none-before p later rise.0
front-before p (q ∷ xs) later rise =
    ap (λ b. cond b (q ∷ filter (λ r. is_before r p) (xs ++ p ∷ later)) (filter (λ r. is_before r p) (xs ++ p ∷ later)))
    (here-before p q xs later rise.0)
    ∙ ap (λ l. q ∷ l) (front-before p xs later rise.1)

-- ---- sums

sum-append : (xs ys : List ℕ) → sum_of (xs ++ ys) ≡ sum_of xs + sum_of ys
unfolding sum_of
sum-append [] ys = omega arith
sum-append (x ∷ xs) ys = let rest = sum-append xs ys in omega (arith, rest)

one-held : (c : Content) (xs : List NodeId) (p : NodeId) → all_held c (xs ++ p ∷ []) ≡ all_held c xs + permanent_length c p
unfolding sum_of
one-held c xs p =
    let both = sum-append (map (permanent_length c) xs) (permanent_length c p ∷ []) in
    ap sum_of (map-append (permanent_length c) xs (p ∷ [])) ∙ omega (arith, both)

none-held : (c : Content) → all_held c [] ≤ MAX_NOTES
unfolding sum_of
none-held c = omega arith

-- what is said of each node: it holds no act, or is short enough with those before it
abbrev pub IsShortIn : Content → List NodeId → NodeId → Type 0
IsShortIn c nodes p =
    (permanent_length c p ≡ 0) ⊎ (all_held c (filter (λ q. is_before q p) nodes) + permanent_length c p < 2 ^ 32)

all-few : (c : Content) (nodes : List NodeId) → AreInOrder nodes → ((p : NodeId) → IsShortIn c nodes p) → (xs later : List NodeId)
    → xs ++ later ≡ nodes → all_held c xs ≤ MAX_NOTES → all_held c nodes ≤ MAX_NOTES
all-few c nodes rise short xs [] same few = subst (λ l. all_held c l ≤ MAX_NOTES) (sym (append-nil xs) ∙ same) few
all-few c nodes rise short xs (p ∷ later) same few =
    all-few c nodes rise short (xs ++ p ∷ []) later (append_assoc xs (p ∷ []) later ∙ same) (elim (short p) [
      | inl none ↦ let one = one-held c xs p in omega (arith, one, none, few)
      | inr below ↦
          let front : filter (λ q. is_before q p) nodes ≡ xs =
          ap (filter (λ q. is_before q p)) (sym same) ∙ front-before p xs later (subst AreInOrder (sym same) rise) in
          let sum : all_held c (filter (λ q. is_before q p) nodes) ≡ all_held c xs = ap (all_held c) front in
          let one = one-held c xs p in
          omega (arith, one, below, sum)
    ])

pub few-together : (scene : SceneModel) (c : Content) → ((p : NodeId) → IsShortIn c (nodes_of scene) p) → all_held c (nodes_of scene) ≤ MAX_NOTES
few-together scene c short = all-few c (nodes_of scene) (nodes-rise 1 (length scene.scripts) scene.shards) short [] (nodes_of scene) refl (none-held c)
