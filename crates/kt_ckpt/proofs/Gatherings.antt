-- What is gathered of a log stays of it, and is what a checkpoint holds.
-- Cited by `Past::acts`, `Past::add`, `Past::are_fit`, `past::are_fit_behind`, `past::give_up`, `past::keep_first`.
use Rattle.std.proofs.Common.{◌≡◌, ℕ, zero, suc, ◌≤◌, Bool, true, false, ◌&&◌, if◌then◌else◌, List, [], ◌∷◌, ◌++◌, take, drop, length, map, get_or, set, ◌<◌}
use Rattle.std.proofs.Common.{Option, Some, None, inl, inr, refl, sym, ap, ◌∙◌, subst, arith, length-append}
use Rattle.std.specs.Prelude.{◌⊎◌, All}
use Rattle.std.specs.List.{list_all}
use Rattle.std.proofs.lemmas.Bool.{cases_Bool, cases_eq, cases_lt}
use Rattle.std.proofs.lemmas.List.{length-take, take-append-drop, get_or-set_same, get_or-set_other, get_or_default, get_or_past}
use Rattle.std.proofs.lemmas.List.Folds.{list_all-append}
use Rattle.std.proofs.lemmas.List.Sums.{list_all-from_AllPass}
use Rattle.std.proofs.lemmas.List.Elements.{All-append, All-same, All-take}
use Rattle.kt_tuple.specs.declared.node.NodeId.{NodeId}
use Rattle.kt_tuple.specs.Node.{node_index}
use Rattle.kt_tuple.proofs.Shared.{node_index-injective}
use Rattle.kt_history.specs.declared.note.Act.{Act}
use Rattle.kt_history.specs.declared.note.Note.{Note}
use Rattle.kt_history.specs.declared.note.Note.TheVariants as notes
use Rattle.kt_history.specs.Log.{log, note_at, same_node}
use Rattle.kt_history.specs.Closed.{act_of, acts_at, acts_in_log}
use Rattle.kt_history.specs.WellFormed.{CausesComeFirst}
use Rattle.kt_history.proofs.Shared.{acts_in_log-own_act, acts_in_log-own_cut, acts_in_log-other_act, acts_in_log-other_cut, same_node-true}
use Rattle.kt_ckpt.specs.declared.acts.LogAct.{LogAct}
use Rattle.kt_ckpt.specs.Acts.{IsActOf, is_act_of}
use Rattle.kt_ckpt.specs.LogActs.{fitting, log_act, log_acts}
use Rattle.kt_ckpt.specs.auxiliary.Gathered.{IsGathered, IsLeft, IsPut, Leaves, fits_at, row}
use Rattle.kt_ckpt.proofs.NotedLogs.{acts-long, front-noted, log-long, take-whole}

-- no more is gathered than the log has
pub gathered-short : (h : List Note) (p : NodeId) (acts : List LogAct) → IsGathered h p acts → length acts ≤ length (log h p)
gathered-short h p acts g =
    let e = ap (λ (l : List LogAct). length l) g.first in
    let m = length-take (length acts) (log_acts h p) in
    omega (arith, e, m, acts-long h p, log-long h p)

-- what is gathered and what stands behind it are the log
pub gathered-whole : (h : List Note) (p : NodeId) (acts : List LogAct) → IsGathered h p acts
    → acts ++ drop (length acts) (log_acts h p) ≡ log_acts h p
gathered-whole h p acts g =
    ap (λ (l : List LogAct). l ++ drop (length acts) (log_acts h p)) g.first ∙ take-append-drop (length acts) (log_acts h p)

-- nothing is gathered at first
pub none-gathered : (h : List Note) (p : NodeId) → IsGathered h p []
none-gathered h p = record { first = refl; fit = λ i d lt. absurd (omega (arith, lt)) }

-- the whole log, where each act may stand in it
pub all-gathered : (h : List Note) (p : NodeId) (acts : List LogAct) → acts ≡ log_acts h p → All (IsActOf p) acts → IsGathered h p acts
all-gathered h p acts are fit = record { first = sym (take-whole acts) ∙ ap (take (length acts)) are; fit = fit }

-- ---- as the history grows

take-twice : {A : Type 0} → (m n : ℕ) (xs : List A) → take m (take n xs) ≡ take (length (take m (take n xs))) xs
take-twice zero n xs = refl
take-twice (suc m) zero xs = refl
take-twice (suc m) (suc n) [] = refl
take-twice (suc m) (suc n) (x ∷ xs) = ap (λ l. x ∷ l) (take-twice m n xs)

-- what the note leaves of a row is still of the log, and no longer than that
left-short : (h : List Note) (note : Note) (p : NodeId) (new : List LogAct) → Leaves note p (length new)
    → length new ≤ length (acts_in_log h p) → length new ≤ length (acts_in_log (h ++ note ∷ []) p)
left-short h (notes.Act a) p new few low = elim (cases_Bool (same_node a.node p)) [
  | inl own ↦
      let Own : NodeId → Type 0 = λ r. acts_in_log (h ++ notes.Act a ∷ []) r ≡ acts_in_log h r ++ a ∷ [] in
      let grown : Own p = subst Own (same_node-true a.node p own) (acts_in_log-own_act h a) in
      let e = ap (λ (l : List Act). length l) grown in
      omega (arith, e, length-append (acts_in_log h p) (a ∷ []), low)
  | inr other ↦ let e = ap (λ (l : List Act). length l) (acts_in_log-other_act h a p other) in omega (arith, e, low)
]
left-short h (notes.Cut q keep) p new few low = elim (cases_Bool (same_node q p)) [
  | inl own ↦
      let same : q ≡ p = same_node-true q p own in
      let Own : NodeId → Type 0 = λ r. acts_in_log (h ++ notes.Cut q keep ∷ []) r ≡ take keep (acts_in_log h r) in
      let cut : Own p = subst Own same (acts_in_log-own_cut h q keep) in
      let e = ap (λ (l : List Act). length l) cut in
      omega (arith, e, length-take keep (acts_in_log h p), few (sym same), low)
  | inr other ↦ let e = ap (λ (l : List Act). length l) (acts_in_log-other_cut h q keep p other) in omega (arith, e, low)
]

pub gathered-noted : (h : List Note) (note : Note) (p : NodeId) (old new : List LogAct) → CausesComeFirst h → IsGathered h p old → IsLeft note old p new
    → IsGathered (h ++ note ∷ []) p new
gathered-noted h note p old new causes g left =
    let e : new ≡ take left.left (take (length old) (log_acts h p)) = left.first ∙ ap (take left.left) g.first in
    let front : new ≡ take (length new) (log_acts h p) =
    e ∙ take-twice left.left (length old) (log_acts h p) ∙ ap (λ (l : List LogAct). take (length l) (log_acts h p)) (sym e) in
    let long = ap (λ (l : List LogAct). length l) front in
    let low : length new ≤ length (acts_in_log h p) =
    omega (arith, long, length-take (length new) (log_acts h p), acts-long h p) in
    record {
      first = front ∙ sym (front-noted h note causes p (length new) low (left-short h note p new left.few low));
      fit = All-same (IsActOf p) new (take left.left old) left.first (All-take (IsActOf p) left.left old g.fit);
    }

-- ---- what a checkpoint holds

-- the log's acts are those that were gathered and those behind them
pub whole-log : (h : List Note) (p : NodeId) (older newer : List LogAct) → IsGathered h p older
    → newer ≡ drop (length older) (log_acts h p) → older ++ newer ≡ log_acts h p
whole-log h p older newer g is = ap (λ (l : List LogAct). older ++ l) is ∙ gathered-whole h p older g

fits-first : (h : List Note) (p : NodeId) (n : ℕ) (numbers : List ℕ) (found : Option Act) → act_of (note_at h n) ≡ found
    → list_all (fits_at h p) numbers ≡ list_all (is_act_of p) (map (log_act h) (acts_at h numbers))
    → list_all (fits_at h p) (n ∷ numbers) ≡ list_all (is_act_of p) (map (log_act h) (acts_at h (n ∷ numbers)))
fits-first h p n numbers (Some a) is rest = rw is (ap (λ (b : Bool). is_act_of p (log_act h a) && b) rest)
fits-first h p n numbers None is rest = rw is rest

-- the acts of these numbers may stand in the log where each number's may
pub fits-each : (h : List Note) (p : NodeId) (numbers : List ℕ)
    → list_all (fits_at h p) numbers ≡ list_all (is_act_of p) (map (log_act h) (acts_at h numbers))
fits-each h p [] = refl
fits-each h p (n ∷ numbers) = fits-first h p n numbers (act_of (note_at h n)) refl (fits-each h p numbers)

-- those of the log may where those that were not gathered may
pub gathered-fits : (h : List Note) (p : NodeId) (older : List LogAct) → IsGathered h p older
    → list_all (is_act_of p) (drop (length older) (log_acts h p)) ≡ list_all (is_act_of p) (log_acts h p)
gathered-fits h p older g =
    let newer = drop (length older) (log_acts h p) in
    let test : list_all (is_act_of p) (older ++ newer) ≡ list_all (is_act_of p) newer =
    list_all-append (is_act_of p) older newer
    ∙ ap (λ (b : Bool). b && list_all (is_act_of p) newer) (list_all-from_AllPass (is_act_of p) older g.fit) in
    sym test ∙ ap (list_all (is_act_of p)) (gathered-whole h p older g)

-- ---- what is told by the acts that are given, or by their want

none-if : {A : Type 0} → (b : Bool) (x : A) → None ≡ (if b then Some x else None) → b ≡ false
none-if true x e = absurd cc
none-if false x e = refl

some-if : {A : Type 0} → (b : Bool) (x y : A) → Some y ≡ (if b then Some x else None) → (b ≡ true) × (y ≡ x)
some-if true x y e = let same : y ≡ x = cc in (refl, same)
some-if false x y e = absurd cc

-- acts are given just where each may stand in the log
pub given-none : (p : NodeId) (acts : List LogAct) → list_all (is_act_of p) acts ≡ false → None ≡ fitting p acts
given-none p acts e = rw e refl

pub given-some : (p : NodeId) (acts given : List LogAct) → list_all (is_act_of p) acts ≡ true → given ≡ acts → Some given ≡ fitting p acts
given-some p acts given e same = rw e (ap (λ (l : List LogAct). Some l) same)

pub fitting-none : (p : NodeId) (acts : List LogAct) → None ≡ fitting p acts → list_all (is_act_of p) acts ≡ false
fitting-none p acts e = none-if (list_all (is_act_of p) acts) acts e

pub fitting-some : (p : NodeId) (acts given : List LogAct) → Some given ≡ fitting p acts → (list_all (is_act_of p) acts ≡ true) × (given ≡ acts)
fitting-some p acts given e = some-if (list_all (is_act_of p) acts) acts given e

-- ---- rows

-- the row of the node gets these acts, and no other changes
pub put-row : (rows : List (List LogAct)) (node : NodeId) (i : ℕ) (acts : List LogAct) → i ≡ node_index node → i < length rows → (p : NodeId)
    → IsPut node acts (row rows p) p (row (set rows i acts) p)
put-row rows node i acts at lt p = elim (cases_eq (node_index p) i) [
  | inl here ↦
      inr (node_index-injective p node (here ∙ at), ap (λ (j : ℕ). get_or (set rows i acts) j []) here ∙ get_or-set_same rows i acts [] lt)
  | inr other ↦ inl (get_or-set_other rows i (node_index p) acts [] other)
]

-- the first acts of the row of the node stay, or none, and no other row changes
pub left-row : (rows : List (List LogAct)) (node : NodeId) (keep i : ℕ) (old new : List LogAct) → i ≡ node_index node → i < length rows
    → old ≡ get_or rows i old → (new ≡ take keep old) ⊎ (new ≡ []) → (p : NodeId) → IsLeft (notes.Cut node keep) (row rows p) p (row (set rows i new) p)
left-row rows node keep i old new at lt is made p = elim (cases_eq (node_index p) i) [
  | inl here ↦
      let now : row (set rows i new) p ≡ new = ap (λ (j : ℕ). get_or (set rows i new) j []) here ∙ get_or-set_same rows i new [] lt in
      let was : row rows p ≡ old = ap (λ (j : ℕ). get_or rows j []) here ∙ get_or_default rows i [] old lt ∙ sym is in
      by made now was
  | inr other ↦
      let same : row (set rows i new) p ≡ row rows p = get_or-set_other rows i (node_index p) new [] other in
      record {
        left = length (row rows p);
        first = same ∙ sym (take-whole (row rows p));
        few = λ e. absurd (other (ap node_index e ∙ sym at));
      }
]
  where
    by : (new ≡ take keep old) ⊎ (new ≡ []) → row (set rows i new) p ≡ new → row rows p ≡ old
        → IsLeft (notes.Cut node keep) (row rows p) p (row (set rows i new) p)
    by (inl front) now was = record {
      left = keep;
      first = now ∙ front ∙ ap (take keep) (sym was);
      few = λ e. let long = ap (λ (l : List LogAct). length l) (now ∙ front) in omega (arith, long, length-take keep old);
    }
    by (inr none) now was = record {
      left = 0;
      first = now ∙ none;
      few = λ e. let long = ap (λ (l : List LogAct). length l) (now ∙ none) in omega (arith, long);
    }

-- where the node has no row, none is left out
pub left-none : (rows : List (List LogAct)) (node : NodeId) (keep : ℕ) → (node_index node < length rows → ⊥) → (p : NodeId)
    → IsLeft (notes.Cut node keep) (row rows p) p (row rows p)
left-none rows node keep out p = record {
  left = length (row rows p);
  first = sym (take-whole (row rows p));
  few = λ e.
      let past : length rows ≤ node_index node = elim (cases_lt (node_index node) (length rows)) [
        | inl lt ↦ absurd (out lt)
        | inr le ↦ le
      ] in
      let none : row rows p ≡ [] = ap (λ (q : NodeId). row rows q) e ∙ get_or_past rows (node_index node) [] past in
      let long = ap (λ (l : List LogAct). length l) none in
      omega (arith, long);
}

-- an act leaves all
pub left-all : (rows : List (List LogAct)) (a : Act) (p : NodeId) → IsLeft (notes.Act a) (row rows p) p (row rows p)
left-all rows a p = record { left = length (row rows p); first = sym (take-whole (row rows p)); few = tt }
