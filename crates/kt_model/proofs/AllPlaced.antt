-- Acts with which their causes are there, in an order in which they can be done, are all placed.
-- Cited by NeverUnfit, Together.
use Rattle.std.proofs.Common.{◌≡◌, ◌⊎◌, ℕ, zero, suc, ◌+◌, ◌<◌, ◌≤◌, Bool, true, false, List, [], ◌∷◌, ◌++◌, length, map, slice_get, Contains, Option, None}
use Rattle.std.proofs.Common.{Some, inl, inr, refl, sym, ap, ◌∙◌, subst, arith}
use Rattle.std.proofs.Common.{length-append}
use Rattle.std.specs.Option.{option_map}
use Rattle.std.proofs.lemmas.Bool.{cases_Bool}
use Rattle.std.proofs.lemmas.Option.{slice_get_cases, slice_get_within}
use Rattle.kt_tuple.specs.declared.node.NodeId.{NodeId}
use Rattle.kt_history.specs.declared.note.Act.{Act}
use Rattle.kt_history.specs.declared.note.Note.{Note}
use Rattle.kt_history.specs.declared.note.Note.TheVariants as notes
use Rattle.kt_history.specs.Log.{log, same_node}
use Rattle.kt_history.proofs.Shared.{Contains-none, log-empty, log-other_act, log-own_act, same_node-true}
use Rattle.kt_logs.proofs.Bags.{Contains-cases}
use Rattle.kt_ckpt.specs.declared.acts.LogAct.{LogAct}
use Rattle.kt_model.specs.Effect.{noted}
use Rattle.kt_model.specs.Placing.{Acts, number_in, number_of, act_by, note_of, next_of, or_else, next_note, placed}
use Rattle.kt_model.specs.Resumed.{sum_of}
use Rattle.kt_model.proofs.PlacedActs.{IsNextAct, IsNextNote, next-next}

-- ---- sums over nodes

abbrev pub sum_over : (NodeId → ℕ) → List NodeId → ℕ
sum_over f nodes = sum_of (map f nodes)

pub sums-rise : (f g : NodeId → ℕ) (nodes : List NodeId) → ((p : NodeId) → f p ≤ g p) → sum_over f nodes ≤ sum_over g nodes
unfolding sum_of
sums-rise f g [] le = omega arith
sums-rise f g (p ∷ later) le = let rest = sums-rise f g later le in let one = le p in omega (arith, rest, one)

-- strictly, where one of the nodes has more
sums-more : (f g : NodeId → ℕ) (nodes : List NodeId) → ((p : NodeId) → f p ≤ g p) → (q : NodeId) → Contains nodes q → f q < g q
    → sum_over f nodes < sum_over g nodes
unfolding sum_of
sums-more f g [] le q among more = absurd (Contains-none q among)
sums-more f g (p ∷ later) le q among more = elim (Contains-cases p q later among) [
  | inl same ↦
      let one : f p < g p = subst (λ n. f n < g n) (sym same) more in
      let rest = sums-rise f g later le in
      omega (arith, one, rest)
  | inr there ↦
      let one = le p in
      let rest = sums-more f g later le q there more in
      omega (arith, one, rest)
]

-- one of the nodes has more, or none
some-more : (f g : NodeId → ℕ) (nodes : List NodeId) → ((p : NodeId) × Contains nodes p × (f p < g p)) ⊎ ((p : NodeId) → Contains nodes p → g p ≤ f p)
some-more f g [] = inr (λ p among. absurd (Contains-none p among))
some-more f g (p ∷ later) = by (cases_Bool (Rattle.std.specs.Prelude.nat_lt (f p) (g p))) (some-more f g later)
  where
    by : (Rattle.std.specs.Prelude.nat_lt (f p) (g p) ≡ true) ⊎ (Rattle.std.specs.Prelude.nat_lt (f p) (g p) ≡ false)
        → ((q : NodeId) × Contains later q × (f q < g q)) ⊎ ((q : NodeId) → Contains later q → g q ≤ f q)
        → ((q : NodeId) × Contains (p ∷ later) q × (f q < g q)) ⊎ ((q : NodeId) → Contains (p ∷ later) q → g q ≤ f q)
    by (inl e) rest = inl (p, Rattle.kt_history.proofs.Shared.Contains-here p later, grind (arith, e))
    by (inr e) (inl rest) = inl (rest.0, Rattle.kt_history.proofs.Shared.Contains-there p later rest.0 rest.1, rest.2)
    by (inr e) (inr rest) = inr (λ q among. elim (Contains-cases p q later among) [
      | inl same ↦ subst (λ n. g n ≤ f n) same (grind (arith, e))
      | inr there ↦ rest q there
    ])

-- ---- some act can be placed

abbrev pub IsAmong : Acts → (NodeId → ℕ → ℕ) → ℕ → Option (NodeId × ℕ) → Type 0
IsAmong acts rank m None = Unit {0}
IsAmong acts rank m (Some by) = (k : ℕ) × (by.1 ≡ suc k) × (k < length (acts by.0)) × (rank by.0 k < m)

-- each act has a rank, which is no less than that of those before it in its log; its cause is among the acts and has a
-- lower one
pub record AreOrdered (acts : Acts) (nodes : List NodeId) (rank : NodeId → ℕ → ℕ) : Type 0 where
  pub rises : (p : NodeId) (i j : ℕ) → i ≤ j → j < length (acts p) → rank p i ≤ rank p j
  pub cause : (p : NodeId) (i : ℕ) (a : LogAct) → slice_get (acts p) i ≡ Some a → IsAmong acts rank (rank p i) a.by
  pub there : (p : NodeId) → 0 < length (acts p) → Contains nodes p

-- there is one
abbrev IsThere : {X : Type 0} → Option X → Type 0
IsThere {X} o = (x : X) × (o ≡ Some x)

either-there : {X : Type 0} (x y : Option X) → IsThere y → IsThere (or_else x y)
either-there None y there = there
either-there (Some x) y there = (x, refl)

this-there : {X : Type 0} (x y : Option X) → IsThere x → IsThere (or_else x y)
this-there x y there = (there.0, ap (λ o. or_else o y) there.1)

found-there : (acts : Acts) (h : List Note) (nodes : List NodeId) (p : NodeId) → Contains nodes p → IsThere (next_of acts h p)
    → IsThere (next_note acts h nodes)
unfolding next_note
found-there acts h [] p among there = absurd (Contains-none p among)
found-there acts h (q ∷ later) p among there = elim (Contains-cases q p later among) [
  | inl same ↦ this-there (next_of acts h q) (next_note acts h later) (subst (λ n. IsThere (next_of acts h n)) (sym same) there)
  | inr later_on ↦ either-there (next_of acts h q) (next_note acts h later) (found-there acts h later p later_on there)
]

module _ (acts : Acts) (nodes : List NodeId) (rank : NodeId → ℕ → ℕ) (ordered : AreOrdered acts nodes rank) where
  -- where an act is not placed, one can be: it, or one of a lower rank
  can-place : (m : ℕ) (h : List Note) (p : NodeId) (j : ℕ) → rank p j < m → length (log h p) ≤ j → j < length (acts p) → IsThere (next_note acts h nodes)
  can-place zero h p j below behind within = absurd (omega (arith, below))
  can-place (suc m) h p j below behind within =
      at (λ q k lower past inside. can-place m h q k lower past inside) (slice_get_cases (acts p) (length (log h p))).1
    where
      -- some act can be placed where one of a lower rank is not
      Again : Type 0
      Again = (q : NodeId) (k : ℕ) → rank q k < m → length (log h q) ≤ k → k < length (acts q) → IsThere (next_note acts h nodes)

      i : ℕ
      i = length (log h p)

      among : Contains nodes p
      among = ordered.there p (omega (arith, within))

      low : rank p i ≤ rank p j
      low = ordered.rises p i j behind within

      next : (a : LogAct) → slice_get (acts p) i ≡ Some a → (n : ℕ) → number_of h a.by ≡ Some n → IsThere (next_note acts h nodes)
      next a is n number =
          found-there acts h nodes p among (act_by p a n, ap (note_of h p) is ∙ ap (option_map (act_by p a)) number)

      caused : Again → (a : LogAct) → slice_get (acts p) i ≡ Some a → (o : Option (NodeId × ℕ)) → a.by ≡ o → IsAmong acts rank (rank p i) o
          → IsThere (next_note acts h nodes)
      caused again a is None e known = next a is 0 (ap (number_of h) e)
      caused again a is (Some by) e known = elim (slice_get_cases (log h by.0) known.0).1 [
        | inl found ↦ next a is found.0 (ap (number_of h) e ∙ ap (number_in (log h by.0)) known.1 ∙ found.2)
        | inr past ↦
            let lower = known.3 in
            again by.0 known.0 (omega (arith, lower, low, below)) past.0 known.2
      ]

      at : Again → ((a : LogAct) × (i < length (acts p)) × (slice_get (acts p) i ≡ Some a) × (Rattle.std.specs.Prelude.get_or (acts p) i a ≡ a))
          ⊎ ((length (acts p) ≤ i) × (slice_get (acts p) i ≡ None)) → IsThere (next_note acts h nodes)
      at again (inl a) = caused again a.0 a.2 a.0.by refl (ordered.cause p i a.0 a.2)
      at again (inr past) = let over = past.0 in absurd (omega (arith, over, behind, within))

  -- ---- so each step places one

  abbrev placed_of : List Note → NodeId → ℕ
  placed_of h p = length (log h p)

  abbrev NoMore : List Note → Type 0
  NoMore h = (p : NodeId) → placed_of h p ≤ length (acts p)

  act-adds : (h : List Note) (a : Act) (p : NodeId) → placed_of h p ≤ placed_of (h ++ notes.Act a ∷ []) p
  act-adds h a p = elim (cases_Bool (same_node a.node p)) [
    | inl e ↦
        let own : placed_of (h ++ notes.Act a ∷ []) a.node ≡ placed_of h a.node + 1 =
        ap (λ (l : List ℕ). length l) (log-own_act h a) ∙ length-append (log h a.node) (suc (length h) ∷ []) in
        subst (λ q. placed_of h q ≤ placed_of (h ++ notes.Act a ∷ []) q) (same_node-true a.node p e) (omega (arith, own))
    | inr e ↦ let other : placed_of (h ++ notes.Act a ∷ []) p ≡ placed_of h p = ap (λ (l : List ℕ). length l) (log-other_act h a p e) in omega (arith, other)
  ]

  act-within : (h : List Note) (a : Act) → IsNextAct acts h a → NoMore h → NoMore (h ++ notes.Act a ∷ [])
  act-within h a is few p = elim (cases_Bool (same_node a.node p)) [
    | inl e ↦
        let own : placed_of (h ++ notes.Act a ∷ []) a.node ≡ placed_of h a.node + 1 =
        ap (λ (l : List ℕ). length l) (log-own_act h a) ∙ length-append (log h a.node) (suc (length h) ∷ []) in
        let within = slice_get_within (acts a.node) (placed_of h a.node) is.fact is.at in
        subst (λ q. placed_of (h ++ notes.Act a ∷ []) q ≤ length (acts q)) (same_node-true a.node p e) (omega (arith, own, within))
    | inr e ↦
        let other : placed_of (h ++ notes.Act a ∷ []) p ≡ placed_of h p = ap (λ (l : List ℕ). length l) (log-other_act h a p e) in
        let one = few p in
        omega (arith, other, one)
  ]

  -- what is placed after a step, of this many acts at most
  record AfterStep (h : List Note) (n : ℕ) : Type 0 where
    few : NoMore h
    enough : sum_over (λ p. length (acts p)) nodes ≤ sum_over (placed_of h) nodes + n

  step-act : (h : List Note) (n : ℕ) (a : Act) → IsNextAct acts h a → NoMore h → sum_over (λ p. length (acts p)) nodes ≤ sum_over (placed_of h) nodes + suc n
      → AfterStep (h ++ notes.Act a ∷ []) n
  step-act h n a is few enough =
      let g = h ++ notes.Act a ∷ [] in
      let within = slice_get_within (acts a.node) (placed_of h a.node) is.fact is.at in
      let own : placed_of g a.node ≡ placed_of h a.node + 1 =
      ap (λ (l : List ℕ). length l) (log-own_act h a) ∙ length-append (log h a.node) (suc (length h) ∷ []) in
      let more = sums-more (placed_of h) (placed_of g) nodes (act-adds h a) a.node (ordered.there a.node (omega (arith, within))) (omega (arith, own)) in
      record { few = act-within h a is few; enough = omega (arith, enough, more) }

  step : (h : List Note) (n : ℕ) → NoMore h → sum_over (λ p. length (acts p)) nodes ≤ sum_over (placed_of h) nodes + suc n
      → AfterStep (noted h (next_note acts h nodes)) n
  step h n few enough = elim (some-more (placed_of h) (λ p. length (acts p)) nodes) [
    | inl left ↦
        let more = left.2 in
        let there = can-place (suc (rank left.0 (placed_of h left.0))) h left.0 (placed_of h left.0) (omega arith) (omega arith) more in
        by there.0 there.1
    | inr all ↦ none all (next_note acts h nodes) (next-next acts h nodes)
  ]
    where
      put : (note : Note) → IsNextNote acts h (Some note) → AfterStep (h ++ note ∷ []) n
      put (notes.Act a) is = step-act h n a is few enough
      put (notes.Cut p keep) is = absurd is

      by : (note : Note) → next_note acts h nodes ≡ Some note → AfterStep (noted h (next_note acts h nodes)) n
      by note e = subst (λ o. AfterStep (noted h o) n) (sym e) (put note (subst (IsNextNote acts h) e (next-next acts h nodes)))

      none : ((p : NodeId) → Contains nodes p → length (acts p) ≤ placed_of h p) → (o : Option Note) → IsNextNote acts h o → AfterStep (noted h o) n
      none all None is = record { few = few; enough = enough-now } where
        every : (p : NodeId) → length (acts p) ≤ placed_of h p
        every p = elim (cases_Bool (Rattle.std.specs.Prelude.nat_lt 0 (length (acts p)))) [
          | inl e ↦ all p (ordered.there p (grind (arith, e)))
          | inr e ↦ grind (arith, e)
        ]

        enough-now : sum_over (λ p. length (acts p)) nodes ≤ sum_over (placed_of h) nodes + n
        enough-now = let rise = sums-rise (λ p. length (acts p)) (placed_of h) nodes every in omega (arith, rise)
      none all (Some note) is = put note is

  -- none is left in the end
  none-left : (h : List Note) → NoMore h → sum_over (λ p. length (acts p)) nodes ≤ sum_over (placed_of h) nodes + 0 → (p : NodeId)
      → placed_of h p ≡ length (acts p)
  none-left h few enough p = elim (some-more (placed_of h) (λ q. length (acts q)) nodes) [
    | inl left ↦
        let less = sums-more (placed_of h) (λ q. length (acts q)) nodes few left.0 left.1 left.2 in
        absurd (omega (arith, less, enough))
    | inr all ↦
        let most = few p in
        elim (cases_Bool (Rattle.std.specs.Prelude.nat_lt 0 (length (acts p)))) [
          | inl e ↦ let least = all p (ordered.there p (grind (arith, e))) in omega (arith, most, least)
          | inr e ↦ grind (arith, e, most)
        ]
  ]

  place-all : (n : ℕ) (h : List Note) → NoMore h → sum_over (λ p. length (acts p)) nodes ≤ sum_over (placed_of h) nodes + n
      → (p : NodeId) → placed_of (placed acts nodes n h) p ≡ length (acts p)
  unfolding placed
  place-all zero h few enough = none-left h few enough
  place-all (suc n) h few enough =
      let one = step h n few enough in
      place-all n (noted h (next_note acts h nodes)) one.few one.enough

  -- all of them are placed, where as many may be
  pub all-are-placed : (n : ℕ) → sum_over (λ p. length (acts p)) nodes ≤ n → (p : NodeId) → length (log (placed acts nodes n []) p) ≡ length (acts p)
  all-are-placed n enough =
      place-all n [] (λ p. let none : length (log [] p) ≡ 0 = ap (λ (l : List ℕ). length l) (log-empty p) in omega (arith, none)) (omega (arith, enough))
