-- In a well-formed history the causes of a closed choice of acts come first among them.
-- Cited by Survive; other crates.
use Rattle.std.proofs.Common.{◌≡◌, ◌≢◌, ℕ, zero, suc, ◌<◌, Bool, true, false, cond, Some, List, [], ◌∷◌, ◌++◌, length, Contains}
use Rattle.std.proofs.Common.{inl, inr, sym, refl, ap, ◌∙◌, subst, append_assoc, length-append, IsTrue, slice_get, arith}
use Rattle.std.proofs.lemmas.Bool.{cases_eq}
use Rattle.kt_history.specs.declared.note.What.{What}
use Rattle.kt_history.specs.declared.note.What.TheVariants as whats
use Rattle.kt_history.specs.declared.note.Act.{Act}
use Rattle.kt_history.specs.declared.note.Note.{Note}
use Rattle.kt_history.specs.declared.note.Note.TheVariants as notes
use Rattle.kt_history.specs.Log.{note_at, before}
use Rattle.kt_history.specs.Survival.{marked_acts, marked_from}
use Rattle.kt_history.specs.Closed.{IsClosed}
use Rattle.kt_history.specs.WellFormed.{IsAnswering, SameRequest, WasServed, ActFits, IsWellFormed}
use Rattle.kt_history.proofs.Shared.{slice_get-take, Contains-here, note_at-within}
use Rattle.kt_logs.proofs.Bags.{Contains-there}
use Rattle.kt_logs.proofs.Caused.{IsServed, IsCaused, CausedFrom}

slice_get-at : {X : Type 0} (us : List X) (x : X) (vs : List X) → slice_get (us ++ x ∷ vs) (length us) ≡ Some x
slice_get-at [] x vs = refl
slice_get-at (u ∷ us) x vs = slice_get-at us x vs

-- the note of the number that comes next
note_here : (h done : List Note) (note : Note) (later : List Note) (n : ℕ) → h ≡ done ++ note ∷ later → n ≡ suc (length done) → note_at h n ≡ Some note
note_here h done note later n e l = subst (λ k. note_at h k ≡ Some note) (sym l) (ap (λ g. slice_get g (length done)) e ∙ slice_get-at done note later)

-- a note of the history before n has a smaller number, and is a note of the whole
pub before_at : (h : List Note) (n m : ℕ) (note : Note) → note_at (before h n) m ≡ Some note → (m < n) × (note_at h m ≡ Some note)
before_at h zero zero note e = absurd cc
before_at h zero (suc m) note e = absurd cc
before_at h (suc n) zero note e = absurd cc
before_at h (suc n) (suc m) note e = let r = slice_get-take n h m note e in (omega (arith, r.0), r.1)

SameRequest-trans : (a b c : Act) → SameRequest a b → SameRequest b c → SameRequest a c
SameRequest-trans a b c r s = record { worker = s.worker ∙ r.worker; number = s.number ∙ r.number; op = s.op ∙ r.op }

-- these acts hold the marked ones before n
abbrev Covers : List Note → (ℕ → Bool) → ℕ → List Act → Type 0
Covers h marks n past = (k : ℕ) (b : Act) → k < n → IsTrue (marks k) → note_at h k ≡ Some (notes.Act b) → Contains past b

-- the cause of a marked act is one of them
cause_marked : (h : List Note) (marks : ℕ → Bool) → IsClosed h marks → (n : ℕ) → IsTrue (marks n) → (a : Act) → note_at h n ≡ Some (notes.Act a) →
    (b : Act) → note_at (before h n) a.by ≡ Some (notes.Act b) → (a.by < n) × IsTrue (marks a.by) × (note_at h a.by ≡ Some (notes.Act b))
cause_marked h marks closed n m a here b e =
    let r = before_at h n a.by (notes.Act b) e in
    (r.0, closed.cause a.by n m (record { act = a; is_act = here; names = refl; some = not_zero a.by r.1 }), r.1)
  where
    not_zero : (k : ℕ) → note_at h k ≡ Some (notes.Act b) → k ≢ 0
    not_zero zero e z = cc
    not_zero (suc k) e z = omega (arith, z)

caused : (h : List Note) (marks : ℕ → Bool) → IsWellFormed h → IsClosed h marks → (n : ℕ) → IsTrue (marks n) → (a : Act) → note_at h n ≡ Some (notes.Act a) →
    (past : List Act) → Covers h marks n past → (what : What) → ActFits (before h n) a what → IsCaused past a what
caused h marks wf closed n m a here past covers (whats.Served answer) r =
    let k = cause_marked h marks closed n m a here r.cause r.is_cause in
    record { request = r.cause; earlier = covers a.by r.cause k.0 k.1 k.2; asking = r.asking; same = r.same }
caused h marks wf closed n m a here past covers (whats.Accepted answer) r = by r.cause.what refl r.answering
  where
    k : (a.by < n) × IsTrue (marks a.by) × (note_at h a.by ≡ Some (notes.Act r.cause))
    k = cause_marked h marks closed n m a here r.cause r.is_cause

    again : WasServed (before h a.by) r.cause answer → IsServed past a answer
    again s =
        let t = before_at h a.by s.service (notes.Act s.act) s.is_act in
        let marked : IsTrue (marks s.service) = closed.below s.service a.by k.1 (record { act = r.cause; is_act = k.2; stood = s.stands }) in
        record {
          service = s.act;
          earlier = covers s.service s.act (omega
              (arith, t.0, k.0)) marked t.1;
          served = s.served;
          same = SameRequest-trans a r.cause s.act r.same s.same;
        }

    by : (what : What) → r.cause.what ≡ what → IsAnswering what answer → IsServed past a answer
    by (whats.Served given) e same = record { service = r.cause; earlier = covers a.by r.cause k.0 k.1 k.2; served = e ∙ ap whats.Served same; same = r.same }
    by (whats.Again given) e same =
        again (subst (WasServed (before h a.by) r.cause) same (subst (ActFits (before h a.by) r.cause) e (wf.fits a.by (notes.Act r.cause) k.2)).1)
    by _ e same = absurd same
caused h marks wf closed n m a here past covers whats.Issue r = tt
caused h marks wf closed n m a here past covers _ r = tt

Covers-skip : (h : List Note) (marks : ℕ → Bool) (n : ℕ) (past : List Act) → Covers h marks n past
    → ((b : Act) → IsTrue (marks n) → note_at h n ≡ Some (notes.Act b) → Contains past b) → Covers h marks (suc n) past
Covers-skip h marks n past covers new k b below m e = elim (cases_eq k n) [
  | inl same ↦ new b (subst (λ j. IsTrue (marks j)) same m) (subst (λ j. note_at h j ≡ Some (notes.Act b)) same e)
  | inr d ↦ covers k b (omega (arith, below, d)) m e
]

caused_from : (h : List Note) (marks : ℕ → Bool) → IsWellFormed h → IsClosed h marks → (done later : List Note) (n : ℕ) → h ≡ done ++ later
    → n ≡ suc (length done) →
    (past : List Act) → Covers h marks n past → CausedFrom past (marked_from marks n later)
unfolding marked_from
caused_from h marks wf closed done [] n e l past covers = tt
caused_from h marks wf closed done (notes.Act a ∷ later) n e l past covers =
    by (marks n) refl (caused_from h marks wf closed (done ++ notes.Act a ∷ []) later (suc n) e' l')
  where
    e' : h ≡ (done ++ notes.Act a ∷ []) ++ later
    e' = e ∙ sym (append_assoc done (notes.Act a ∷ []) later)

    l' : suc n ≡ suc (length (done ++ notes.Act a ∷ []))
    l' = omega (arith, l, length-append done (notes.Act a ∷ []))

    here : note_at h n ≡ Some (notes.Act a)
    here = note_here h done (notes.Act a) later n e l

    by : (m : Bool) → marks n ≡ m → ((past : List Act) → Covers h marks (suc n) past → CausedFrom past (marked_from marks (suc n) later)) →
        CausedFrom past (cond m (a ∷ marked_from marks (suc n) later) (marked_from marks (suc n) later))
    by false m rest = rest past (Covers-skip h marks n past covers (λ b k e. absurd cc))
    by true m rest = (
      caused h marks wf closed n m a here past covers a.what (wf.fits n (notes.Act a) here),
      rest (a ∷ past) (Covers-skip h marks n (a ∷ past) (λ k b below k' e. Contains-there a b past (covers k b below k' e))
          (λ b k e. let same : a ≡ b = cc (here, e) in subst (Contains (a ∷ past)) same (Contains-here a past))),
    )
caused_from h marks wf closed done (notes.Cut q keep ∷ later) n e l past covers =
    let here = note_here h done (notes.Cut q keep) later n e l in
    caused_from h marks wf closed (done ++ notes.Cut q keep ∷ []) later (suc n) (e ∙ sym (append_assoc done (notes.Cut q keep ∷ []) later))
    (omega (arith, l, length-append done (notes.Cut q keep ∷ []))) past
    (Covers-skip h marks n past covers (λ b k e'. absurd cc))

-- the causes of the marked acts come first among them
pub causes_first : (h : List Note) (marks : ℕ → Bool) → IsWellFormed h → IsClosed h marks → CausedFrom [] (marked_acts marks h)
causes_first h marks wf closed = caused_from h marks wf closed [] h 1 refl refl [] (λ k b below m e. absurd (none k b below e))
  where
    none : (k : ℕ) (b : Act) → k < 1 → note_at h k ≡ Some (notes.Act b) → ⊥
    none k b below e = omega (arith, (note_at-within h k (notes.Act b) e).0)
