-- What happened before what.
-- Cited by Changes, Keeping, KeepingActs, KeepingCuts, Sense, Survivors, `laws::happened_before_is_transitive`; other
--   crates.
use Rattle.std.proofs.Common.{◌≡◌, ℕ, ◌<◌, ◌≤◌, List, [], ◌∷◌, ◌++◌, length, Some, sym, ◌∙◌, subst, inl, inr, arith, Contains}
use Rattle.kt_history.specs.declared.note.Note.{Note}
use Rattle.kt_history.specs.declared.note.Note.TheVariants as notes
use Rattle.kt_history.specs.Log.{note_at, before, IsAct, log}
use Rattle.kt_history.specs.Past.{StoodBefore, IsCauseOf, InPast, itself, in_log, by_cause}
use Rattle.kt_history.specs.WellFormed.{MayFollow, CausesComeFirst}
use Rattle.kt_history.proofs.Logs.{note_at-old, note_at-within, note_at-push_cases, note_before, before-old, before-new, log-own}

-- happened-before is transitive
pub InPast-trans : (h : List Note) (d : ℕ) {e f : ℕ} → InPast h d e → InPast h e f → InPast h d f
InPast-trans h d p itself = p
InPast-trans h d p (in_log s q) = in_log s (InPast-trans h d p q)
InPast-trans h d p (by_cause s q) = by_cause s (InPast-trans h d p q)

pub StoodBefore-act : (h : List Note) (g f : ℕ) → StoodBefore h g f → (g < f) × IsAct h g
StoodBefore-act h g f s =
    let own = log-own (before h f) s.act.node g s.stood in
    let at = note_before h f (notes.Act s.act) g (notes.Act own.act) s.is_act own.is_act in
    (at.0, (own.act, at.1))

pub IsCauseOf-act : (h : List Note) → CausesComeFirst h → (g f : ℕ) → IsCauseOf h g f → (g < f) × IsAct h g
IsCauseOf-act h w g f c =
    let from = w.follows f (notes.Act c.act) c.is_act in
    let named = from (λ none. c.some (sym c.names ∙ none)) in
    let P : ℕ → Type 0 = λ n. note_at (before h f) n ≡ Some (notes.Act named.0) in
    let at = note_before h f (notes.Act c.act) g (notes.Act named.0) c.is_act (subst P c.names named.1) in
    (at.0, (named.0, at.1))

-- the past goes back to smaller numbers, which name acts
pub InPast-back : (h : List Note) → CausesComeFirst h → (e : ℕ) {f : ℕ} → IsAct h f → InPast h e f → (e ≤ f) × IsAct h e
InPast-back h w e a itself = (omega arith, a)
InPast-back h w e a (in_log {g} {f} s q) =
    let back = StoodBefore-act h g f s in
    let rest = InPast-back h w e back.1 q in
    (omega (arith, back.0, rest.0), rest.1)
InPast-back h w e a (by_cause {g} {f} s q) =
    let back = IsCauseOf-act h w g f s in
    let rest = InPast-back h w e back.1 q in
    (omega (arith, back.0, rest.0), rest.1)

-- one more note changes nothing of the past of the acts before it
pub StoodBefore-old : (h g : List Note) (e f : ℕ) → f ≤ length h → StoodBefore h e f → StoodBefore (h ++ g) e f
StoodBefore-old h g e f le s =
    let P : List Note → Type 0 = λ past. Contains (log past s.act.node) e in
    record {
      act = s.act;
      is_act = note_at-old h g f le ∙ s.is_act;
      stood = subst P (sym (before-old h g f (omega (arith, le)))) s.stood;
    }

pub StoodBefore-was : (h g : List Note) (e f : ℕ) → f ≤ length h → StoodBefore (h ++ g) e f → StoodBefore h e f
StoodBefore-was h g e f le s =
    let P : List Note → Type 0 = λ past. Contains (log past s.act.node) e in
    record {
      act = s.act;
      is_act = sym (note_at-old h g f le) ∙ s.is_act;
      stood = subst P (before-old h g f (omega (arith, le))) s.stood;
    }

pub IsCauseOf-old : (h g : List Note) (e f : ℕ) → f ≤ length h → IsCauseOf h e f → IsCauseOf (h ++ g) e f
IsCauseOf-old h g e f le s =
    record { act = s.act; is_act = note_at-old h g f le ∙ s.is_act; names = s.names; some = s.some }

pub IsCauseOf-was : (h g : List Note) (e f : ℕ) → f ≤ length h → IsCauseOf (h ++ g) e f → IsCauseOf h e f
IsCauseOf-was h g e f le s =
    record { act = s.act; is_act = sym (note_at-old h g f le) ∙ s.is_act; names = s.names; some = s.some }

act_within : (h : List Note) (n : ℕ) → IsAct h n → n ≤ length h
act_within h n a = (note_at-within h n (notes.Act a.0) a.1).1

pub InPast-old : (h g : List Note) → CausesComeFirst h → (e : ℕ) {f : ℕ} → f ≤ length h → InPast h e f → InPast (h ++ g) e f
InPast-old h g w e le itself = itself
InPast-old h g w e le (in_log {g = d} {f} s q) =
    let back = StoodBefore-act h d f s in
    in_log (StoodBefore-old h g d f le s) (InPast-old h g w e (act_within h d back.1) q)
InPast-old h g w e le (by_cause {g = d} {f} s q) =
    let back = IsCauseOf-act h w d f s in
    by_cause (IsCauseOf-old h g d f le s) (InPast-old h g w e (act_within h d back.1) q)

pub InPast-was : (h g : List Note) → CausesComeFirst h → (e : ℕ) {f : ℕ} → f ≤ length h → InPast (h ++ g) e f → InPast h e f
InPast-was h g w e le itself = itself
InPast-was h g w e le (in_log {g = d} {f} s q) =
    let was = StoodBefore-was h g d f le s in
    in_log was (InPast-was h g w e (act_within h d (StoodBefore-act h d f was).1) q)
InPast-was h g w e le (by_cause {g = d} {f} s q) =
    let was = IsCauseOf-was h g d f le s in
    by_cause was (InPast-was h g w e (act_within h d (IsCauseOf-act h w d f was).1) q)

-- causes come first in a history with one more note
pub CausesComeFirst-empty : CausesComeFirst []
CausesComeFirst-empty = record { follows = λ n note e. absurd (omega (arith, note_at-within [] n note e)) }

pub CausesComeFirst-push : (h : List Note) (note : Note) → CausesComeFirst h → MayFollow h note → CausesComeFirst (h ++ note ∷ [])
CausesComeFirst-push h x w m = record { follows = go } where
  go : (n : ℕ) (note : Note) → note_at (h ++ x ∷ []) n ≡ Some note → MayFollow (before (h ++ x ∷ []) n) note
  go n note e = elim (note_at-push_cases h x n note e) [
    | inl old ↦
        let P : List Note → Type 0 = λ past. MayFollow past note in
        subst P (sym (before-old h (x ∷ []) n (omega (arith, old.0)))) (w.follows n note old.1)
    | inr new ↦
        let P : Note → Type 0 = λ y. MayFollow h y in
        let Q : List Note → Type 0 = λ past. MayFollow past note in
        let R : ℕ → Type 0 = λ k. h ≡ before (h ++ x ∷ []) k in
        subst Q (subst R (sym new.0) (sym (before-new h x))) (subst P new.1 m)
  ]
