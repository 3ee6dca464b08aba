-- The logs of different nodes hold no more numbers together than there are notes.
-- Cited by NeverUnfit; other crates.
use Rattle.std.proofs.Common.{◌≡◌, ◌≢◌, ◌⊎◌, ℕ, zero, suc, ◌+◌, ◌<◌, ◌≤◌, Bool, true, false, List, [], ◌∷◌, ◌++◌, take, length, map, filter, cond, Contains}
use Rattle.std.proofs.Common.{Option, None, Some, inl, inr, refl, sym, ap, ◌∙◌, subst, arith, length-append}
use Rattle.std.specs.Prelude.{is_some, slice_get, IsTrue, ◌||◌}
use Rattle.std.specs.List.{AllByRecursion, range_with_len}
use Rattle.std.proofs.lemmas.Bool.{cases_Bool, cases_eq}
use Rattle.std.proofs.lemmas.List.Elements.{Contains-append_left, Contains-append_right}
use Rattle.std.proofs.lemmas.Option.{slice_get_within}
use Rattle.kt_tuple.specs.declared.node.NodeId.{NodeId}
use Rattle.kt_tuple.specs.declared.node.NodeId.TheVariants as ids
use Rattle.kt_tuple.specs.Node.{is_before, node_index}
use Rattle.kt_tuple.proofs.Shared.{node_index-injective}
use Rattle.kt_history.specs.declared.note.Note.{Note}
use Rattle.kt_history.specs.declared.note.Note.TheVariants as notes
use Rattle.kt_history.specs.Log.{log, same_node}
use Rattle.kt_history.proofs.Lists.{snoc_ind}
use Rattle.kt_history.proofs.Shared.{Contains-here, Contains-there, Contains-none, log-empty, log-other_act, log-other_cut, log-own_act, log-own_cut}
use Rattle.kt_history.proofs.Shared.{same_node-true}
use Rattle.kt_logs.proofs.Bags.{Contains-cases}
use Rattle.kt_script.specs.declared.command.Command.{Command}
use Rattle.kt_scenario.specs.Scene.{SceneModel, is_among, is_node, script_at}
use Rattle.kt_model.specs.Resumed.{nodes_of, sum_of}
use Rattle.kt_model.proofs.AllPlaced.{sum_over}
use Rattle.kt_model.proofs.Sums.{AreInOrder, not_before_itself, nodes-rise}

-- ---- sums

sums-among : (f g : NodeId → ℕ) (nodes : List NodeId) → ((p : NodeId) → Contains nodes p → f p ≤ g p) → sum_over f nodes ≤ sum_over g nodes
unfolding sum_of
sums-among f g [] le = omega arith
sums-among f g (p ∷ later) le =
    let rest = sums-among f g later (λ q among. le q (Contains-there p later q among)) in
    let one = le p (Contains-here p later) in
    omega (arith, rest, one)

all-after : (p : NodeId) (later : List NodeId) → AllByRecursion (λ q. is_before p q ≡ true) later → (q : NodeId) → Contains later q → is_before p q ≡ true
all-after p [] all q among = absurd (Contains-none q among)
all-after p (r ∷ later) all q among = elim (Contains-cases r q later among) [
  | inl same ↦ subst (λ n. is_before p n ≡ true) same all.0
  | inr there ↦ all-after p later all.1 q there
]

-- one node has one more, and stands in the list once at most
one-more : (f g : NodeId → ℕ) (q : NodeId) → ((p : NodeId) → p ≢ q → g p ≤ f p) → g q ≤ f q + 1 → (nodes : List NodeId) → AreInOrder nodes
    → sum_over g nodes ≤ sum_over f nodes + 1
unfolding sum_of
one-more f g q others own [] rise = omega arith
one-more f g q others own (p ∷ later) rise = by (cases_eq (node_index p) (node_index q)) (one-more f g q others own later rise.1)
  where
    by : (node_index p ≡ node_index q) ⊎ (node_index p ≡ node_index q → ⊥) → sum_over g later ≤ sum_over f later + 1
        → sum_over g (p ∷ later) ≤ sum_over f (p ∷ later) + 1
    by (inl e) rest =
        let same : p ≡ q = node_index-injective p q e in
        let rest_less = sums-among g f later (λ r among. others r (λ z.
        let back : is_before p p ≡ true = subst (λ n. is_before p n ≡ true) (z ∙ sym same) (all-after p later rise.0 r among) in
        let apart : true ≡ false = sym back ∙ not_before_itself p in
        absurd (cc (apart)))) in
        let one : g p ≤ f p + 1 = subst (λ n. g n ≤ f n + 1) (sym same) own in
        omega (arith, rest_less, one)
    by (inr d) rest =
        let one = others p (λ z. d (ap node_index z)) in
        omega (arith, rest, one)

-- those that pass, and one that does not
pub some-of : (f : NodeId → ℕ) (passes : NodeId → Bool) (p : NodeId) → passes p ≡ false → (nodes : List NodeId) → Contains nodes p
    → sum_over f (filter passes nodes) + f p ≤ sum_over f nodes
unfolding sum_of
some-of f passes p fails [] among = absurd (Contains-none p among)
some-of f passes p fails (q ∷ later) among = by (cases_Bool (passes q)) (Contains-cases q p later among) (some-of f passes p fails later) (fewer later)
  where
    fewer : (nodes : List NodeId) → sum_over f (filter passes nodes) ≤ sum_over f nodes
    fewer [] = omega arith
    fewer (r ∷ rest) = elim (cases_Bool (passes r)) [
      | inl e ↦
          let here : sum_over f (filter passes (r ∷ rest)) ≡ f r + sum_over f (filter passes rest) =
          ap (λ b. sum_over f (cond b (r ∷ filter passes rest) (filter passes rest))) e in
          let below = fewer rest in
          omega (arith, here, below)
      | inr e ↦
          let here : sum_over f (filter passes (r ∷ rest)) ≡ sum_over f (filter passes rest) =
          ap (λ b. sum_over f (cond b (r ∷ filter passes rest) (filter passes rest))) e in
          let below = fewer rest in
          omega (arith, here, below)
    ]

    by : (passes q ≡ true) ⊎ (passes q ≡ false) → (q ≡ p) ⊎ Contains later p
        → (Contains later p → sum_over f (filter passes later) + f p ≤ sum_over f later)
        → sum_over f (filter passes later) ≤ sum_over f later
        → sum_over f (filter passes (q ∷ later)) + f p ≤ sum_over f (q ∷ later)
    by (inl e) (inl same) rest less = let apart : true ≡ false = sym e ∙ ap passes same ∙ fails in absurd (cc (apart))
    by (inl e) (inr there) rest less =
        let here : sum_over f (filter passes (q ∷ later)) ≡ f q + sum_over f (filter passes later) =
        ap (λ b. sum_over f (cond b (q ∷ filter passes later) (filter passes later))) e in
        let below = rest there in
        omega (arith, here, below)
    by (inr e) (inl same) rest less =
        let here : sum_over f (filter passes (q ∷ later)) ≡ sum_over f (filter passes later) =
        ap (λ b. sum_over f (cond b (q ∷ filter passes later) (filter passes later))) e in
        let own : f q ≡ f p = ap f same in
        omega (arith, here, less, own)
    by (inr e) (inr there) rest less =
        let here : sum_over f (filter passes (q ∷ later)) ≡ sum_over f (filter passes later) =
        ap (λ b. sum_over f (cond b (q ∷ filter passes later) (filter passes later))) e in
        let below = rest there in
        omega (arith, here, below)

-- ---- logs

abbrev long : List Note → NodeId → ℕ
long h p = length (log h p)

length-take : (k : ℕ) (xs : List ℕ) → length (take k xs) ≤ length xs
length-take zero xs = omega arith
length-take (suc k) [] = omega arith
length-take (suc k) (x ∷ xs) = let rest = length-take k xs in omega (arith, rest)

-- a note makes the log of one node one longer at most, and no other
note-adds : (h : List Note) (note : Note) → (q : NodeId) × ((p : NodeId) → p ≢ q → long (h ++ note ∷ []) p ≤ long h p)
    × (long (h ++ note ∷ []) q ≤ long h q + 1)
note-adds h (notes.Act a) = (a.node, others, own)
  where
    own : long (h ++ notes.Act a ∷ []) a.node ≤ long h a.node + 1
    own =
        let e : long (h ++ notes.Act a ∷ []) a.node ≡ long h a.node + 1 =
        ap (λ (l : List ℕ). length l) (log-own_act h a) ∙ length-append (log h a.node) (suc (length h) ∷ []) in
        omega (arith, e)

    others : (p : NodeId) → p ≢ a.node → long (h ++ notes.Act a ∷ []) p ≤ long h p
    others p d = elim (cases_Bool (same_node a.node p)) [
      | inl e ↦ absurd (d (sym (same_node-true a.node p e)))
      | inr e ↦ let same : long (h ++ notes.Act a ∷ []) p ≡ long h p = ap (λ (l : List ℕ). length l) (log-other_act h a p e) in omega (arith, same)
    ]
note-adds h (notes.Cut q keep) = (q, others, own)
  where
    own : long (h ++ notes.Cut q keep ∷ []) q ≤ long h q + 1
    own =
        let e : long (h ++ notes.Cut q keep ∷ []) q ≡ length (take keep (log h q)) = ap (λ (l : List ℕ). length l) (log-own_cut h q keep) in
        let less = length-take keep (log h q) in
        omega (arith, e, less)

    others : (p : NodeId) → p ≢ q → long (h ++ notes.Cut q keep ∷ []) p ≤ long h p
    others p d = elim (cases_Bool (same_node q p)) [
      | inl e ↦ absurd (d (sym (same_node-true q p e)))
      | inr e ↦ let same : long (h ++ notes.Cut q keep ∷ []) p ≡ long h p = ap (λ (l : List ℕ). length l) (log-other_cut h q keep p e) in omega (arith, same)
    ]

none-long : (nodes : List NodeId) → sum_over (long []) nodes ≤ 0
unfolding sum_of
none-long [] = omega arith
none-long (p ∷ later) =
    let rest = none-long later in
    let none : long [] p ≡ 0 = ap (λ (l : List ℕ). length l) (log-empty p) in
    omega (arith, rest, none)

pub logs-together : (nodes : List NodeId) → AreInOrder nodes → (h : List Note) → sum_over (λ p. length (log h p)) nodes ≤ length h
logs-together nodes rise h = snoc_ind (λ g. sum_over (long g) nodes ≤ length g) (none-long nodes) step h
  where
    step : (g : List Note) (x : Note) → sum_over (long g) nodes ≤ length g → sum_over (long (g ++ x ∷ [])) nodes ≤ length (g ++ x ∷ [])
    step g x ih =
        let adds = note-adds g x in
        let more = one-more (long g) (long (g ++ x ∷ [])) adds.0 adds.1 adds.2 nodes rise in
        let one = length-append g (x ∷ []) in
        omega (arith, ih, more, one)

-- ---- the nodes of the scene

in-numbered : (f : ℕ → NodeId) (from n k : ℕ) → from ≤ k → k < from + n → Contains (map f (range_with_len from n)) (f k)
in-numbered f from zero k low high = absurd (omega (arith, low, high))
in-numbered f from (suc n) k low high = elim (cases_eq from k) [
  | inl e ↦ subst (λ i. Contains (f from ∷ map f (range_with_len (from + 1) n)) (f i)) e (Contains-here (f from) (map f (range_with_len (from + 1) n)))
  | inr d ↦
      let above : from + 1 ≤ k = grind (arith, low, d) in
      Contains-there (f from) (map f (range_with_len (from + 1) n)) (f k) (in-numbered f (from + 1) n k above (omega (arith, high)))
]

is-there : {X : Type 0} (xs : List X) (i : ℕ) → IsTrue (is_some (slice_get xs i)) → i < length xs
is-there xs i some = by (slice_get xs i) refl some
  where
    by : (o : Option _) → slice_get xs i ≡ o → IsTrue (is_some o) → i < length xs
    by None e none = absurd (cc (none))
    by (Some x) e some = slice_get_within xs i x e

or-none : (b : Bool) → IsTrue (b || false) → IsTrue b
or-none true t = refl
or-none false t = t

-- each is among them
pub among-nodes : (scene : SceneModel) (p : NodeId) → IsTrue (is_node scene p) → Contains (nodes_of scene) p
among-nodes scene (ids.Worker zero) there = absurd (cc (there))
among-nodes scene (ids.Worker (suc n)) there =
    let within = is-there scene.scripts n (or-none (is_some (slice_get scene.scripts n)) there) in
    Contains-append_left (map (λ i. ids.Worker i) (range_with_len 1 (length scene.scripts))) (map (λ i. ids.Shard i) (range_with_len 1 scene.shards))
    (ids.Worker (suc n))
    (in-numbered (λ i. ids.Worker i) 1 (length scene.scripts) (suc n) (omega arith) (omega (arith, within)))
among-nodes scene (ids.Shard n) there =
    let within : (1 ≤ n) × (n ≤ scene.shards) = (grind (arith, there), grind (arith, there)) in
    Contains-append_right (map (λ i. ids.Worker i) (range_with_len 1 (length scene.scripts))) (map (λ i. ids.Shard i) (range_with_len 1 scene.shards))
    (ids.Shard n)
    (in-numbered (λ i. ids.Shard i) 1 scene.shards n within.0 (let high = within.1 in omega (arith, high)))

pub scene-rises : (scene : SceneModel) → AreInOrder (nodes_of scene)
scene-rises scene = nodes-rise 1 (length scene.scripts) scene.shards
