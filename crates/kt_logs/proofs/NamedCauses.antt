-- The cause that is found for a service is an act.
-- Cited by other crates.
use Rattle.std.proofs.Common.{◌≡◌, ◌≢◌, ℕ, Bool, true, false, cond, List, [], ◌∷◌, reverse, Option, None, Some, refl, sym, subst}
use Rattle.std.specs.Prelude.{find}
use Rattle.std.specs.List.{cons_option, AllByRecursion}
use Rattle.std.proofs.lemmas.List.{reverse-append}
use Rattle.kt_tuple.specs.declared.node.NodeId.{NodeId}
use Rattle.kt_history.specs.declared.note.Act.{Act}
use Rattle.kt_history.specs.declared.note.Note.{Note}
use Rattle.kt_history.specs.declared.note.Note.TheVariants as notes
use Rattle.kt_history.specs.Log.{note_at, log, IsAct}
use Rattle.kt_history.specs.WellFormed.{CausesComeFirst}
use Rattle.kt_history.specs.Closed.{act_of, acts_at}
use Rattle.kt_history.proofs.Shared.{note_before}
use Rattle.kt_logs.proofs.Lists.{all-append}
use Rattle.kt_logs.specs.Cause.{hears_worker, cause_of, cause_of_waiting}

-- the cause of an act of the history is an act of it
cause_named : (h : List Note) → CausesComeFirst h → (n : ℕ) (a : Act) → note_at h n ≡ Some (notes.Act a) → a.by ≢ 0 → IsAct h a.by
cause_named h causes n a at some =
    let earlier = causes.follows n (notes.Act a) at some in
    (earlier.0, (note_before h n (notes.Act a) a.by (notes.Act earlier.0) at earlier.1).1)

all-reverse : {X : Type 0} (P : X → Type 0) (xs : List X) → AllByRecursion P xs → AllByRecursion P (reverse xs)
all-reverse P [] h = tt
all-reverse P (x ∷ xs) h =
    let Q : List _ → Type 0 = AllByRecursion P in
    subst Q (sym (reverse-append (x ∷ []) xs)) (all-append P (reverse xs) (x ∷ []) (all-reverse P xs h.1) (h.0, tt))

found-holds : {X : Type 0} (P : X → Type 0) (p : X → Bool) (b : Bool) (x y : X) (later : Option X) → cond b (Some x) later ≡ Some y → P x
    → (later ≡ Some y → P y) → P y
found-holds P p true x y later e h g = let is : x ≡ y = cc in subst P is h
found-holds P p false x y later e h g = g e

find-holds : {X : Type 0} (P : X → Type 0) (p : X → Bool) (xs : List X) (y : X) → AllByRecursion P xs → find p xs ≡ Some y → P y
find-holds P p [] y h e = absurd cc
find-holds P p (x ∷ xs) y h e = found-holds P p (p x) x y (find p xs) e h.0 (λ g. find-holds P p xs y h.1 g)

-- the act's cause is an act
abbrev HasCause : List Note → Act → Type 0
HasCause h a = a.by ≢ 0 → IsAct h a.by

all-have_causes : (h : List Note) → CausesComeFirst h → (numbers : List ℕ) → AllByRecursion (HasCause h) (acts_at h numbers)
all-have_causes h causes [] = tt
all-have_causes h causes (n ∷ later) = one (note_at h n) refl (all-have_causes h causes later)
  where
    one : (o : Option Note) → note_at h n ≡ o → AllByRecursion (HasCause h) (acts_at h later)
        → AllByRecursion (HasCause h) (cons_option (act_of o) (acts_at h later))
    one None at rest = rest
    one (Some (notes.Act a)) at rest = (cause_named h causes n a at, rest)
    one (Some (notes.Cut p keep)) at rest = rest

-- the cause that is found for a service is an act
pub cause_of_waiting-named : (h : List Note) → CausesComeFirst h → (p : NodeId) (worker : ℕ) → cause_of_waiting h p worker ≢ 0
    → IsAct h (cause_of_waiting h p worker)
cause_of_waiting-named h causes p worker = among (find (hears_worker worker) (reverse (acts_at h (log h p)))) refl
  where
    among : (o : Option Act) → find (hears_worker worker) (reverse (acts_at h (log h p))) ≡ o → cause_of o ≢ 0 → IsAct h (cause_of o)
    among None e some = absurd (some refl)
    among (Some a) e some = find-holds (HasCause h) (hears_worker worker) (reverse (acts_at h (log h p))) a
        (all-reverse (HasCause h) (acts_at h (log h p)) (all-have_causes h causes (log h p))) e some
