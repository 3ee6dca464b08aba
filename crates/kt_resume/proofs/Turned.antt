-- What a turn leaves: the act of one list is placed, and the other lists stay what their nodes did behind their logs.
-- Cited by `placing::first_ready`, `placing::place_all`, `placing::place_next`, `placing::place`.
use Rattle.std.proofs.Common.{◌≡◌, ◌≢◌, ℕ, zero, suc, ◌+◌, ◌<◌, ◌≤◌, Bool, true, false, List, [], ◌∷◌, ◌++◌, length, map, drop, slice_get, slice_set}
use Rattle.std.proofs.Common.{Option, None, Some, inl, inr, refl, sym, ap, ◌∙◌, subst, arith, length-append}
use Rattle.std.specs.Prelude.{is_some, IsTrue}
use Rattle.std.specs.List.{AllByRecursion}
use Rattle.std.specs.Option.{option_map}
use Rattle.std.proofs.lemmas.Bool.{cases_Bool}
use Rattle.std.proofs.lemmas.Option.{slice_get_cases}
use Rattle.kt_tuple.specs.declared.node.NodeId.{NodeId}
use Rattle.kt_history.specs.declared.note.Act.{Act}
use Rattle.kt_history.specs.declared.note.Note.{Note}
use Rattle.kt_history.specs.declared.note.Note.TheVariants as notes
use Rattle.kt_history.specs.Log.{log, same_node, IsAct}
use Rattle.kt_history.proofs.Shared.{Contains-from_slice_get, log-other_act, log-own, log-own_act, same_node-true}
use Rattle.kt_ckpt.specs.declared.acts.LogAct.{LogAct}
use Rattle.kt_model.specs.Effect.{noted}
use Rattle.kt_model.specs.Placing.{Acts, number_in, number_of, act_by, note_of, next_of, or_else, next_note, placed}
use Rattle.kt_resume.specs.Unplaced.{Left}
use Rattle.kt_resume.specs.Turns.{AreApart, AreLeft, count_left, nodes_in}
use Rattle.kt_resume.specs.auxiliary.Next.{first_in, next_in, next_at}

-- ---- one act

-- a number that was found is 0, or of an act
pub number-act : (h : List Note) (by : Option (NodeId × ℕ)) (n : ℕ) → number_of h by ≡ Some n → n ≢ 0 → IsAct h n
number-act h None n e some = absurd (some (let zero_is : 0 ≡ n = cc (e) in sym zero_is))
number-act h (Some by) n e some = at by.1 e
  where
    at : (k : ℕ) → number_in (log h by.0) k ≡ Some n → IsAct h n
    at zero none = absurd (cc (none))
    at (suc i) found = let own = log-own h by.0 n (Contains-from_slice_get (log h by.0) i n found) in (own.act, own.is_act)

-- the note of a list is an act of its node
pub next-act : (h : List Note) (x : Left) (note : Note) → next_in h x ≡ Some note → (a : Act) × (note ≡ notes.Act a) × (a.node ≡ x.node)
next-act h x note e = by (slice_get x.acts 0) e
  where
    by : (o : Option LogAct) → note_of h x.node o ≡ Some note → (a : Act) × (note ≡ notes.Act a) × (a.node ≡ x.node)
    by None none = absurd (cc (none))
    by (Some fact) some = pick (number_of h fact.by) some
      where
        pick : (o : Option ℕ) → option_map (act_by x.node fact) o ≡ Some note → (a : Act) × (note ≡ notes.Act a) × (a.node ≡ x.node)
        pick None none = absurd (cc (none))
        pick (Some n) found =
            let same : act_by x.node fact n ≡ note = cc (found) in
            (record { node = x.node; by = n; worker = fact.worker; number = fact.number; op = fact.op; what = fact.what }, sym same, refl)

-- ---- the first that can be placed

pub first-skips : (h : List Note) (logs : List Left) (i : ℕ) (x : Left) → slice_get logs i ≡ Some x → next_in h x ≡ None
    → first_in h (drop i logs) ≡ first_in h (drop (suc i) logs)
unfolding first_in
first-skips h [] i x at none = absurd (cc (at))
first-skips h (y ∷ later) zero x at none =
    let same : y ≡ x = cc (at) in
    ap (λ o. or_else o (first_in h later)) (ap (next_in h) same ∙ none)
first-skips h (y ∷ later) (suc i) x at none = first-skips h later i x at none

pub first-found : (h : List Note) (logs : List Left) (i : ℕ) (x : Left) → slice_get logs i ≡ Some x → IsTrue (is_some (next_in h x))
    → first_in h (drop i logs) ≡ next_in h x
unfolding first_in
first-found h [] i x at some = absurd (cc (at))
first-found h (y ∷ later) zero x at some =
    let same : y ≡ x = cc (at) in
    ap (λ o. or_else o (first_in h later)) (ap (next_in h) same) ∙ by (next_in h x) some
  where
    by : (o : Option Note) → IsTrue (is_some o) → or_else o (first_in h later) ≡ o
    by None none = absurd (cc (none))
    by (Some note) some = refl
first-found h (y ∷ later) (suc i) x at some = first-found h later i x at some

pub first-none : (h : List Note) (logs : List Left) (i : ℕ) → length logs ≤ i → first_in h (drop i logs) ≡ None
unfolding first_in
first-none h [] zero past = refl
first-none h [] (suc i) past = refl
first-none h (y ∷ later) zero past = absurd (omega (arith, past))
first-none h (y ∷ later) (suc i) past = first-none h later i (omega (arith, past))

-- ---- it is the one of the definition

pub first-is : (acts : Acts) (h : List Note) (logs : List Left) → AreLeft acts h logs → first_in h logs ≡ next_note acts h (nodes_in logs)
unfolding first_in next_note
first-is acts h [] left = refl
first-is acts h (x ∷ later) left =
    ap (λ o. or_else o (first_in h later)) here ∙ ap (or_else (next_of acts h x.node)) (first-is acts h later left.1)
  where
    get-drop : (k : ℕ) (xs : List LogAct) → slice_get (drop k xs) 0 ≡ slice_get xs k
    get-drop zero xs = refl
    get-drop (suc k) [] = refl
    get-drop (suc k) (y ∷ xs) = get-drop k xs

    here : next_in h x ≡ next_of acts h x.node
    here =
        ap (λ (l : List LogAct). note_of h x.node (slice_get l 0)) left.0
        ∙ ap (note_of h x.node) (get-drop (length (log h x.node)) (acts x.node))

-- ---- what a turn leaves

module _ (acts : Acts) (h : List Note) (a : Act) where
  log-same : (p : NodeId) → p ≢ a.node → log (h ++ notes.Act a ∷ []) p ≡ log h p
  log-same p d = elim (cases_Bool (same_node a.node p)) [
    | inl e ↦ absurd (d (sym (same_node-true a.node p e)))
    | inr e ↦ log-other_act h a p e
  ]

  -- the lists of other nodes
  others-left : (logs : List Left) → AllByRecursion (λ q. q ≢ a.node) (nodes_in logs) → AreLeft acts h logs → AreLeft acts (h ++ notes.Act a ∷ []) logs
  others-left [] apart left = tt
  others-left (y ∷ later) apart left =
      (left.0 ∙ ap (λ (l : List ℕ). drop (length l) (acts y.node)) (sym (log-same y.node apart.0)), others-left later apart.1 left.1)

  drop-suc : (k : ℕ) (xs : List LogAct) → drop 1 (drop k xs) ≡ drop (suc k) xs
  drop-suc zero xs = refl
  drop-suc (suc k) [] = refl
  drop-suc (suc k) (x ∷ xs) = drop-suc k xs

  drop-more : (k : ℕ) (xs : List LogAct) → drop 1 (drop k xs) ≡ drop (k + 1) xs
  drop-more k xs = let one : suc k ≡ k + 1 = omega arith in drop-suc k xs ∙ ap (λ n. drop n xs) one

  own-left : (x y : Left) → x.node ≡ a.node → y.node ≡ x.node → y.acts ≡ drop 1 x.acts → x.acts ≡ drop (length (log h x.node)) (acts x.node)
      → y.acts ≡ drop (length (log (h ++ notes.Act a ∷ []) y.node)) (acts y.node)
  own-left x y own same rest was =
      let long : length (log (h ++ notes.Act a ∷ []) a.node) ≡ length (log h a.node) + 1 =
      ap (λ (l : List ℕ). length l) (log-own_act h a) ∙ length-append (log h a.node) (suc (length h) ∷ []) in
      let P : NodeId → Type 0 = λ p. drop (length (log h p) + 1) (acts p) ≡ drop (length (log (h ++ notes.Act a ∷ []) p)) (acts p) in
      let here : P a.node = ap (λ n. drop n (acts a.node)) (sym long) in
      rest ∙ ap (drop 1) was ∙ drop-more (length (log h x.node)) (acts x.node) ∙ subst P (sym own) here
      ∙ ap (λ p. drop (length (log (h ++ notes.Act a ∷ []) p)) (acts p)) (sym same)

  apart-at : (z : Left) (later : List Left) (i : ℕ) (x : Left) → AllByRecursion (λ q. q ≢ z.node) (nodes_in later) → slice_get later i ≡ Some x
      → x.node ≢ z.node
  apart-at z [] i x apart at = absurd (cc (at))
  apart-at z (y ∷ later) zero x apart at = let same : y ≡ x = cc (at) in subst (λ (w : Left). w.node ≢ z.node) same apart.0
  apart-at z (y ∷ later) (suc i) x apart at = apart-at z later i x apart.1 at

  all-of : (p q : NodeId) (logs : List Left) → p ≡ q → AllByRecursion (λ r. r ≢ p) (nodes_in logs) → AllByRecursion (λ r. r ≢ q) (nodes_in logs)
  all-of p q logs same all = subst (λ n. AllByRecursion (λ r. r ≢ n) (nodes_in logs)) same all

  turn-left : (logs : List Left) (i : ℕ) (x y : Left) → AreApart (nodes_in logs) → AreLeft acts h logs → slice_get logs i ≡ Some x → x.node ≡ a.node
      → y.node ≡ x.node
      → y.acts ≡ drop 1 x.acts → AreLeft acts (h ++ notes.Act a ∷ []) (slice_set logs i y)
  turn-left [] i x y apart left at own same rest = absurd (cc (at))
  turn-left (z ∷ later) zero x y apart left at own same rest =
      let is : z ≡ x = cc (at) in
      let was : x.acts ≡ drop (length (log h x.node)) (acts x.node) = subst (λ (w : Left). w.acts ≡ drop (length (log h w.node)) (acts w.node)) is left.0 in
      let node : z.node ≡ a.node = ap (λ (w : Left). w.node) is ∙ own in
      (own-left x y own same rest was, others-left later (all-of z.node a.node later node apart.0) left.1)
  turn-left (z ∷ later) (suc i) x y apart left at own same rest =
      let other : z.node ≢ a.node = λ e. apart-at z later i x apart.0 at (own ∙ sym e) in
      (left.0 ∙ ap (λ (l : List ℕ). drop (length l) (acts z.node)) (sym (log-same z.node other)), turn-left later i x y apart.1 left.1 at own same rest)

pub nodes-set : (logs : List Left) (i : ℕ) (x y : Left) → slice_get logs i ≡ Some x → y.node ≡ x.node → nodes_in (slice_set logs i y) ≡ nodes_in logs
nodes-set [] i x y at same = absurd (cc (at))
nodes-set (z ∷ later) zero x y at same =
    let is : z ≡ x = cc (at) in
    ap (λ n. n ∷ nodes_in later) (same ∙ ap (λ (w : Left). w.node) (sym is))
nodes-set (z ∷ later) (suc i) x y at same = ap (λ l. z.node ∷ l) (nodes-set later i x y at same)

pub count-set : (logs : List Left) (i : ℕ) (x y : Left) → slice_get logs i ≡ Some x → length x.acts ≡ 1 + length y.acts
    → count_left logs ≡ 1 + count_left (slice_set logs i y)
unfolding count_left
count-set [] i x y at one = absurd (cc (at))
count-set (z ∷ later) zero x y at one =
    let is : z ≡ x = cc (at) in
    let same : length z.acts ≡ length x.acts = ap (λ (w : Left). length w.acts) is in
    omega (arith, same, one)
count-set (z ∷ later) (suc i) x y at one = let rest = count-set later i x y at one in omega (arith, rest)

-- a turn by the note of a list
pub turned : (acts : Acts) (h g : List Note) (logs : List Left) (i : ℕ) (x y : Left) → AreApart (nodes_in logs) → AreLeft acts h logs
    → slice_get logs i ≡ Some x
    → IsTrue (is_some (next_in h x)) → g ≡ noted h (next_in h x) → y.node ≡ x.node → y.acts ≡ drop 1 x.acts → AreLeft acts g (slice_set logs i y)
turned acts h g logs i x y apart left at some grown same rest = by (next_in h x) refl some
  where
    by : (o : Option Note) → next_in h x ≡ o → IsTrue (is_some o) → AreLeft acts g (slice_set logs i y)
    by None e none = absurd (cc (none))
    by (Some note) e some =
        let is = next-act h x note e in
        let now : h ++ notes.Act is.0 ∷ [] ≡ g = ap (λ (n : Note). h ++ n ∷ []) (sym is.1) ∙ ap (noted h) (sym e) ∙ sym grown in
        subst (λ l. AreLeft acts l (slice_set logs i y)) now (turn-left acts h is.0 logs i x y apart left at (sym is.2) same rest)

-- where none can be placed, nothing more is placed
pub placed-none : (acts : Acts) (nodes : List NodeId) (n : ℕ) (h : List Note) → next_note acts h nodes ≡ None → placed acts nodes n h ≡ h
unfolding placed
placed-none acts nodes zero h none = refl
placed-none acts nodes (suc n) h none =
    ap (λ o. placed acts nodes n (noted h o)) none ∙ placed-none acts nodes n h none

pub none-found : (o : Option Note) → is_some o ≡ false → o ≡ None
none-found None e = refl
none-found (Some note) e = absurd (cc (e))

-- a list that has one is there
pub ready-within : (h : List Note) (logs : List Left) (i : ℕ) → IsTrue (is_some (next_at h (slice_get logs i))) → i < length logs
ready-within h logs i ready = elim (slice_get_cases logs i).1 [
  | inl is ↦ is.1
  | inr past ↦
      let none : is_some (next_at h (slice_get logs i)) ≡ false = ap (λ (o : Option Left). is_some (next_at h o)) past.1 in
      let apart : false ≡ true = sym none ∙ ready in
      absurd (cc (apart))
]

-- what is still to be placed after a turn
pub due-more : (acts : Acts) (h g : List Note) (logs new : List Left) → AreLeft acts h logs → g ≡ noted h (first_in h logs) → nodes_in new ≡ nodes_in logs
    → count_left logs ≡ 1 + count_left new → placed acts (nodes_in new) (count_left new) g ≡ placed acts (nodes_in logs) (count_left logs) h
unfolding placed
due-more acts h g logs new left grown nodes count =
    let one : count_left logs ≡ suc (count_left new) = omega (arith, count) in
    ap (λ n. placed acts n (count_left new) g) nodes
    ∙ ap (placed acts (nodes_in logs) (count_left new)) (grown ∙ ap (noted h) (first-is acts h logs left))
    ∙ ap (λ n. placed acts (nodes_in logs) n h) (sym one)

-- where none can be placed, that is nothing
pub due-none : (acts : Acts) (h g : List Note) (logs : List Left) → AreLeft acts h logs → g ≡ noted h (first_in h logs) → first_in h logs ≡ None
    → g ≡ placed acts (nodes_in logs) (count_left logs) h
due-none acts h g logs left grown none =
    grown ∙ ap (noted h) none ∙ sym (placed-none acts (nodes_in logs) (count_left logs) h (sym (first-is acts h logs left) ∙ none))
