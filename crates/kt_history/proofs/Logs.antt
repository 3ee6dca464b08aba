-- How a log grows, and what stands in it.
-- Cited by Changes, Fronts, Keeping, KeepingActs, KeepingCuts, Pasts, Places, Sense, Survivors,
--   `laws::logs_are_stacks`; other crates.
use Rattle.std.proofs.Common.{◌≡◌, ℕ, zero, suc, ◌+◌, ◌<◌, ◌≤◌, true, false, List, [], ◌∷◌, ◌++◌, take, length}
use Rattle.std.proofs.Common.{Some, refl, sym, ap, ◌∙◌, subst, ◌⊎◌, inl, inr, arith, Contains, add-zero}
use Rattle.std.specs.List.{slice_get}
use Rattle.std.proofs.lemmas.List.{take-append-le, take_at, take-take, length-take-le}
use Rattle.std.proofs.lemmas.List.Elements.{Contains-push_cases}
use Rattle.std.proofs.lemmas.Option.{slice_get_within, none-some}
use Rattle.std.proofs.lemmas.Bool.{eqb-true, eq-eqb, cases_Bool, cond-true, cond-false}
use Rattle.kt_space.proofs.Shared.{read_pushed}
use Rattle.kt_tuple.specs.declared.node.NodeId.{NodeId}
use Rattle.kt_tuple.specs.Node.{node_index}
use Rattle.kt_history.specs.declared.note.Act.{Act}
use Rattle.kt_history.specs.declared.note.Note.{Note}
use Rattle.kt_history.specs.declared.note.Note.TheVariants as notes
use Rattle.kt_history.specs.Log.{note_at, before, same_node, log_step, log_from, log}
use Rattle.kt_tuple.proofs.Shared.{node_index-injective}
use Rattle.kt_history.proofs.Lists.{snoc_ind, slice_get-append_left, slice_get-push_cases, slice_get-take}
use Rattle.kt_history.proofs.Lists.{slice_get-take_below, Contains-from_slice_get, Contains-from_take, Contains-none}

pub same_node-true : (p q : NodeId) → same_node p q ≡ true → p ≡ q
same_node-true p q e = node_index-injective p q (eqb-true (node_index p) (node_index q) e)

pub same_node-refl : (p : NodeId) → same_node p p ≡ true
same_node-refl p = eq-eqb (node_index p) (node_index p) refl

log_from-append : (p : NodeId) (xs : List ℕ) (n : ℕ) (h g : List Note) → log_from p xs n (h ++ g) ≡ log_from p (log_from p xs n h) (n + length h) g
unfolding log_from
log_from-append p xs n [] g = ap (λ m. log_from p xs m g) (sym (add-zero n))
log_from-append p xs n (x ∷ h) g =
    let same : suc n + length h ≡ n + suc (length h) = omega arith in
    log_from-append p (log_step p xs n x) (suc n) h g ∙ ap (λ m. log_from p (log_from p (log_step p xs n x) (suc n) h) m g) same

-- the log of the empty history
pub log-empty : (p : NodeId) → log [] p ≡ []
unfolding log log_from
log-empty p = refl

-- one more note
pub log-push : (h : List Note) (note : Note) (p : NodeId) → log (h ++ note ∷ []) p ≡ log_step p (log h p) (suc (length h)) note
unfolding log log_from
log-push h note p =
    let same : 1 + length h ≡ suc (length h) = omega arith in
    log_from-append p [] 1 h (note ∷ []) ∙ ap (λ m. log_step p (log_from p [] 1 h) m note) same

pub log-own_act : (h : List Note) (a : Act) → log (h ++ notes.Act a ∷ []) a.node ≡ log h a.node ++ suc (length h) ∷ []
log-own_act h a = log-push h (notes.Act a) a.node ∙ cond-true _ _ _ (same_node-refl a.node)

pub log-own_cut : (h : List Note) (p : NodeId) (keep : ℕ) → log (h ++ notes.Cut p keep ∷ []) p ≡ take keep (log h p)
log-own_cut h p keep = log-push h (notes.Cut p keep) p ∙ cond-true _ _ _ (same_node-refl p)

pub log-other_act : (h : List Note) (a : Act) (p : NodeId) → same_node a.node p ≡ false → log (h ++ notes.Act a ∷ []) p ≡ log h p
log-other_act h a p e = log-push h (notes.Act a) p ∙ cond-false _ _ _ e

pub log-other_cut : (h : List Note) (q : NodeId) (keep : ℕ) (p : NodeId) → same_node q p ≡ false → log (h ++ notes.Cut q keep ∷ []) p ≡ log h p
log-other_cut h q keep p e = log-push h (notes.Cut q keep) p ∙ cond-false _ _ _ e

-- a note keeps its number as the history grows, and so do the notes before it
pub note_at-old : (h g : List Note) (n : ℕ) → n ≤ length h → note_at (h ++ g) n ≡ note_at h n
note_at-old h g zero le = refl
note_at-old h g (suc n) le = slice_get-append_left h g n (omega (arith, le))

pub note_at-new : (h : List Note) (note : Note) → note_at (h ++ note ∷ []) (suc (length h)) ≡ Some note
note_at-new h note = read_pushed h note

pub before-old : (h g : List Note) (n : ℕ) → n ≤ suc (length h) → before (h ++ g) n ≡ before h n
before-old h g zero le = refl
before-old h g (suc n) le = take-append-le n h g (omega (arith, le))

pub before-new : (h : List Note) (note : Note) → before (h ++ note ∷ []) (suc (length h)) ≡ h
before-new h note = take_at h (note ∷ []) (length h) refl

-- a number that names a note is one of 1 to the length
pub note_at-within : (h : List Note) (n : ℕ) (note : Note) → note_at h n ≡ Some note → (1 ≤ n) × (n ≤ length h)
note_at-within h zero note e = absurd (none-some note e)
note_at-within h (suc n) note e = let lt = slice_get_within h n note e in (omega arith, omega (arith, lt))

-- a note of a history with one more is an old one or the new one
pub note_at-push_cases : (h : List Note) (x : Note) (n : ℕ) (note : Note) → note_at (h ++ x ∷ []) n ≡ Some note → ((n ≤ length h) × (note_at h n ≡ Some note))
    ⊎ ((n ≡ suc (length h)) × (x ≡ note))
note_at-push_cases h x zero note e = absurd (none-some note e)
note_at-push_cases h x (suc n) note e = elim (slice_get-push_cases h x n note e) [
  | inl c ↦ inl (omega (arith, c.0), c.1)
  | inr c ↦ inr (ap suc c.0, c.1)
]

pub length-before : (h : List Note) (n : ℕ) → n ≤ suc (length h) → suc (length (before h n)) ≡ n ⊎ (n ≡ 0)
length-before h zero le = inr refl
length-before h (suc n) le = inl (ap suc (length-take-le n h (omega (arith, le))))

pub note_at-before : (h : List Note) (n m : ℕ) → m < n → note_at (before h n) m ≡ note_at h m
note_at-before h zero m lt = absurd (omega (arith, lt))
note_at-before h (suc n) zero lt = refl
note_at-before h (suc n) (suc m) lt = slice_get-take_below n h m (omega (arith, lt))

pub before-before : (h : List Note) (n m : ℕ) → m ≤ n → before (before h n) m ≡ before h m
before-before h n zero le = refl
before-before h zero (suc m) le = absurd (omega (arith, le))
before-before h (suc n) (suc m) le = take-take m n h (omega (arith, le))

-- the act e of h is an act of p
pub record IsOwnAct (h : List Note) (p : NodeId) (e : ℕ) : Type 0 where
  pub act : Act
  pub is_act : note_at h e ≡ Some (notes.Act act)
  pub own : act.node ≡ p

pub IsOwnAct-old : (h : List Note) (x : Note) (p : NodeId) (e : ℕ) → IsOwnAct h p e → IsOwnAct (h ++ x ∷ []) p e
IsOwnAct-old h x p e o = record {
  act = o.act;
  is_act = note_at-old h (x ∷ []) e (note_at-within h e (notes.Act o.act) o.is_act).1 ∙ o.is_act;
  own = o.own;
}

-- what stands in a node's log is an act of the node
pub log-own : (h : List Note) (p : NodeId) (e : ℕ) → Contains (log h p) e → IsOwnAct h p e
log-own h p e = snoc_ind (λ g. Contains (log g p) e → IsOwnAct g p e) (λ c. absurd (Contains-none e (rw log-empty at c))) (λ g x ih. step g x ih) h where
  step : (g : List Note) (x : Note) → (Contains (log g p) e → IsOwnAct g p e) → Contains (log (g ++ x ∷ []) p) e → IsOwnAct (g ++ x ∷ []) p e
  step g (notes.Act a) ih c = elim (cases_Bool (same_node a.node p)) [
    | inl own_node ↦
        let same = same_node-true a.node p own_node in
        let P : NodeId → Type 0 = λ q. log (g ++ notes.Act a ∷ []) q ≡ log g q ++ suc (length g) ∷ [] in
        let grown : P p = subst P same (log-own_act g a) in
        let Q : List ℕ → Type 0 = λ xs. Contains xs e in
        elim (Contains-push_cases (log g p) (suc (length g)) e (subst Q grown c)) [
          | inl old ↦ IsOwnAct-old g (notes.Act a) p e (ih old)
          | inr new ↦
              let R : ℕ → Type 0 = λ n. IsOwnAct (g ++ notes.Act a ∷ []) p n in
              subst R new (record { act = a; is_act = note_at-new g (notes.Act a); own = same })
        ]
    | inr other ↦
        let Q : List ℕ → Type 0 = λ xs. Contains xs e in
        IsOwnAct-old g (notes.Act a) p e (ih (subst Q (log-other_act g a p other) c))
  ]
  step g (notes.Cut q keep) ih c = elim (cases_Bool (same_node q p)) [
    | inl own_node ↦
        let same = same_node-true q p own_node in
        let P : NodeId → Type 0 = λ r. log (g ++ notes.Cut q keep ∷ []) r ≡ take keep (log g r) in
        let cut : P p = subst P same (log-own_cut g q keep) in
        let Q : List ℕ → Type 0 = λ xs. Contains xs e in
        IsOwnAct-old g (notes.Cut q keep) p e (ih (Contains-from_take keep (log g p) e (subst Q cut c)))
    | inr other ↦
        let Q : List ℕ → Type 0 = λ xs. Contains xs e in
        IsOwnAct-old g (notes.Cut q keep) p e (ih (subst Q (log-other_cut g q keep p other) c))
  ]

-- a log is a stack: what stood before an act when it was appended is what stands before it
pub log-stack : (h : List Note) (p : NodeId) (i e : ℕ) → slice_get (log h p) i ≡ Some e → log (before h e) p ≡ take i (log h p)
log-stack h p i e = snoc_ind (λ g. slice_get (log g p) i ≡ Some e → log (before g e) p ≡ take i (log g p)) (λ c. absurd (none-some e (rw log-empty at c)))
    (λ g x ih. step g x ih) h where
      kept : (g : List Note) (x : Note) → (slice_get (log g p) i ≡ Some e → log (before g e) p ≡ take i (log g p)) → (at : slice_get (log g p) i ≡ Some e)
          → log (before (g ++ x ∷ []) e) p ≡ take i (log g p)
      kept g x ih at =
          let own = log-own g p e (Contains-from_slice_get (log g p) i e at) in
          let le = (note_at-within g e (notes.Act own.act) own.is_act).1 in
          ap (λ f. log f p) (before-old g (x ∷ []) e (omega (arith, le))) ∙ ih at

      step : (g : List Note) (x : Note) → (slice_get (log g p) i ≡ Some e → log (before g e) p ≡ take i (log g p)) →
          slice_get (log (g ++ x ∷ []) p) i ≡ Some e
          → log (before (g ++ x ∷ []) e) p ≡ take i (log (g ++ x ∷ []) p)
      step g (notes.Act a) ih at = elim (cases_Bool (same_node a.node p)) [
        | inl own_node ↦
            let same = same_node-true a.node p own_node in
            let P : NodeId → Type 0 = λ q. log (g ++ notes.Act a ∷ []) q ≡ log g q ++ suc (length g) ∷ [] in
            let grown : P p = subst P same (log-own_act g a) in
            let Q : List ℕ → Type 0 = λ xs. slice_get xs i ≡ Some e in
            elim (slice_get-push_cases (log g p) (suc (length g)) i e (subst Q grown at)) [
              | inl old ↦
                  kept g (notes.Act a) ih old.1 ∙ sym (take-append-le i (log g p) (suc (length g) ∷ []) (omega (arith, old.0))) ∙ ap (take i) (sym grown)
              | inr new ↦
                  let R : ℕ → Type 0 = λ n. log (before (g ++ notes.Act a ∷ []) n) p ≡ log g p in
                  let here : R e = subst R new.1 (ap (λ f. log f p) (before-new g (notes.Act a))) in
                  here ∙ sym (take_at (log g p) (suc (length g) ∷ []) i (sym new.0)) ∙ ap (take i) (sym grown)
            ]
        | inr other ↦
            let Q : List ℕ → Type 0 = λ xs. slice_get xs i ≡ Some e in
            kept g (notes.Act a) ih (subst Q (log-other_act g a p other) at) ∙ ap (take i) (sym (log-other_act g a p other))
      ]
      step g (notes.Cut q keep) ih at = elim (cases_Bool (same_node q p)) [
        | inl own_node ↦
            let same = same_node-true q p own_node in
            let P : NodeId → Type 0 = λ r. log (g ++ notes.Cut q keep ∷ []) r ≡ take keep (log g r) in
            let cut : P p = subst P same (log-own_cut g q keep) in
            let Q : List ℕ → Type 0 = λ xs. slice_get xs i ≡ Some e in
            let was = slice_get-take keep (log g p) i e (subst Q cut at) in
            kept g (notes.Cut q keep) ih was.1 ∙ sym (take-take i keep (log g p) (omega (arith, was.0))) ∙ ap (take i) (sym cut)
        | inr other ↦
            let Q : List ℕ → Type 0 = λ xs. slice_get xs i ≡ Some e in
            kept g (notes.Cut q keep) ih (subst Q (log-other_cut g q keep p other) at) ∙ ap (take i) (sym (log-other_cut g q keep p other))
      ]

-- just so many notes stand before a note as its number says
pub length-before_note : (h : List Note) (n : ℕ) (note : Note) → note_at h n ≡ Some note → suc (length (before h n)) ≡ n
length-before_note h n note e =
    let bounds = note_at-within h n note e in
    elim (length-before h n (omega (arith, bounds))) [ inl same ↦ same | inr none ↦ absurd (omega (arith, bounds)) ]

-- a note before a note has a smaller number, and is a note of the whole history
pub note_before : (h : List Note) (n : ℕ) (note : Note) (m : ℕ) (x : Note) → note_at h n ≡ Some note → note_at (before h n) m ≡ Some x → (m < n)
    × (note_at h m ≡ Some x)
note_before h n note m x e at =
    let lt : m < n = omega (arith, note_at-within (before h n) m x at, length-before_note h n note e) in
    (lt, sym (note_at-before h n m lt) ∙ at)

-- numbers rise along a log
pub log-rises : (h : List Note) (p : NodeId) (i j e g : ℕ) → i < j → slice_get (log h p) i ≡ Some e → slice_get (log h p) j ≡ Some g → e < g
log-rises h p i j e g lt at_i at_j =
    let own = log-own h p g (Contains-from_slice_get (log h p) j g at_j) in
    let at : slice_get (log (before h g) p) i ≡ Some e = ap (λ xs. slice_get xs i) (log-stack h p j g at_j) ∙ slice_get-take_below j (log h p) i lt ∙ at_i in
    let was = log-own (before h g) p e (Contains-from_slice_get (log (before h g) p) i e at) in
    (note_before h g (notes.Act own.act) e (notes.Act was.act) own.is_act was.is_act).0
