-- Histories that make sense: how they grow, and that without a cut nothing is lost.
-- Cited by `laws::nothing_is_lost_without_a_cut`, `laws::the_past_goes_back_step_by_step`,
--   `laws::well_formed_histories_grow`; other crates.
use Rattle.std.proofs.Common.{◌≡◌, ◌≢◌, ℕ, suc, List, [], ◌∷◌, ◌++◌, length, Option, None, Some, refl, sym, ap, ◌∙◌, subst, ◌⊎◌, inl, inr, arith, Contains}
use Rattle.std.proofs.lemmas.List.Elements.{Contains-push}
use Rattle.kt_tuple.specs.declared.node.NodeId.{NodeId}
use Rattle.kt_tuple.specs.declared.node.NodeId.TheVariants.{Worker, Shard}
use Rattle.kt_tuple.specs.declared.op.Answer.{Answer}
use Rattle.kt_history.specs.declared.note.What.{What}
use Rattle.kt_history.specs.declared.note.What.TheVariants as whats
use Rattle.kt_history.specs.declared.note.Act.{Act}
use Rattle.kt_history.specs.declared.note.Note.{Note}
use Rattle.kt_history.specs.declared.note.Note.TheVariants as notes
use Rattle.kt_history.specs.Log.{note_at, before, IsAct, log, last_of}
use Rattle.kt_history.specs.Past.{InPast, itself, in_log, by_cause}
use Rattle.kt_history.specs.WellFormed.{MayFollow, CausesComeFirst, HeardRequest, HeardReply, IgnoredFits, ActFits, Fits, IsWellFormed, HasNoCut}
use Rattle.kt_history.specs.Survival.{Stands, Survives}
use Rattle.kt_history.proofs.Lists.{snoc_ind}
use Rattle.kt_history.proofs.Logs.{log-own_act, note_at-old, note_at-new, note_at-within, note_at-push_cases, before-old, before-new}
use Rattle.kt_history.proofs.Pasts.{InPast-back}
use Rattle.kt_history.proofs.Changes.{Stands-act_old, StoodBefore-last, StoodBefore-from_last}

pub IsWellFormed-empty : IsWellFormed []
IsWellFormed-empty = record { fits = λ n note e. absurd (omega (arith, note_at-within [] n note e)) }

-- a well-formed history stays so with a note that makes sense after it
pub IsWellFormed-push : (h : List Note) (note : Note) → IsWellFormed h → Fits h note → IsWellFormed (h ++ note ∷ [])
IsWellFormed-push h x w f = record { fits = go } where
  go : (n : ℕ) (note : Note) → note_at (h ++ x ∷ []) n ≡ Some note → Fits (before (h ++ x ∷ []) n) note
  go n note e = elim (note_at-push_cases h x n note e) [
    | inl old ↦
        let P : List Note → Type 0 = λ past. Fits past note in
        subst P (sym (before-old h (x ∷ []) n (omega (arith, old.0)))) (w.fits n note old.1)
    | inr new ↦
        let P : Note → Type 0 = λ y. Fits h y in
        let Q : List Note → Type 0 = λ past. Fits past note in
        let R : ℕ → Type 0 = λ k. h ≡ before (h ++ x ∷ []) k in
        subst Q (subst R (sym new.0) (sym (before-new h x))) (subst P new.1 f)
  ]

heard_request : (h : List Note) (a : Act) → HeardRequest h a → IsAct h a.by
heard_request h a r = (r.cause, r.is_cause)

heard_reply : (h : List Note) (a : Act) (answer : Answer) → HeardReply h a answer → IsAct h a.by
heard_reply h a answer r = (r.cause, r.is_cause)

cause_of_ignored : (h : List Note) (a : Act) (p : NodeId) (answer : Option Answer) → IgnoredFits h a p answer → IsAct h a.by
cause_of_ignored h a (Shard s) None f = heard_request h a f
cause_of_ignored h a (Shard s) (Some answer) f = absurd f
cause_of_ignored h a (Worker w) None f = absurd f
cause_of_ignored h a (Worker w) (Some answer) f = heard_reply h a answer f

cause_of : (h : List Note) (a : Act) (w : What) → ActFits h a w → a.by ≢ 0 → IsAct h a.by
cause_of h a whats.Issue f some = absurd (some f)
cause_of h a whats.Repeat f some = absurd (some f)
cause_of h a whats.Heard f some = heard_request h a f
cause_of h a (whats.Served answer) f some = heard_request h a f
cause_of h a (whats.Again answer) f some = heard_request h a f.0
cause_of h a (whats.Accepted answer) f some = heard_reply h a answer f
cause_of h a (whats.Ignored answer) f some = cause_of_ignored h a a.node answer f

-- a note that makes sense may follow
pub MayFollow-from_fits : (h : List Note) (note : Note) → Fits h note → MayFollow h note
MayFollow-from_fits h (notes.Act a) f = cause_of h a a.what f
MayFollow-from_fits h (notes.Cut p keep) f = f

pub CausesComeFirst-from_well_formed : (h : List Note) → IsWellFormed h → CausesComeFirst h
CausesComeFirst-from_well_formed h w = record { follows = λ n note e. MayFollow-from_fits (before h n) note (w.fits n note e) }

-- without a cut every act stands
pub Stands-no_cut : (h : List Note) (n : ℕ) → HasNoCut h → IsAct h n → Stands h n
Stands-no_cut h n = snoc_ind (λ g. HasNoCut g → IsAct g n → Stands g n) (λ _ a. absurd (omega (arith, note_at-within [] n (notes.Act a.0) a.1))) step h where
  step : (g : List Note) (x : Note) → (HasNoCut g → IsAct g n → Stands g n) → HasNoCut (g ++ x ∷ []) → IsAct (g ++ x ∷ []) n → Stands (g ++ x ∷ []) n
  step g (notes.Cut p keep) ih none a = absurd (none.none (suc (length g)) p keep (note_at-new g (notes.Cut p keep)))
  step g (notes.Act b) ih none a = elim (note_at-push_cases g (notes.Act b) n (notes.Act a.0) a.1) [
    | inl old ↦
        Stands-act_old g b n
        (ih (record { none = λ k p keep e. none.none k p keep (note_at-old g (notes.Act b ∷ []) k (note_at-within g k (notes.Cut p keep) e).1 ∙ e) })
        (a.0, old.1))
    | inr new ↦
        let P : ℕ → Type 0 = λ k. Contains (log (g ++ notes.Act b ∷ []) b.node) k in
        let Q : List ℕ → Type 0 = λ xs. Contains xs (suc (length g)) in
        (b.node, subst P (sym new.0) (subst Q (sym (log-own_act g b)) (Contains-push (log g b.node) (suc (length g)))))
  ]

-- without a cut every act survives
pub Survives-no_cut : (h : List Note) → CausesComeFirst h → HasNoCut h → (n : ℕ) → IsAct h n → Survives h n
Survives-no_cut h w none n a = λ e p lost. lost (Stands-no_cut h e none (InPast-back h w e a p).1)

-- the past of an act, one step back: the act, the past of the act before it in its log, the past of its cause
pub record PastByStep (h : List Note) (e f : ℕ) (a : Act) : Type 0 where
  pub here : e ≡ f → InPast h e f
  pub previous : last_of (log (before h f) a.node) ≢ 0 → InPast h e (last_of (log (before h f) a.node)) → InPast h e f
  pub cause : a.by ≢ 0 → InPast h e a.by → InPast h e f
  pub only : InPast h e f → (e ≡ f) ⊎ (InPast h e (last_of (log (before h f) a.node)) ⊎ InPast h e a.by)

pub PastByStep-of : (h : List Note) (e f : ℕ) (a : Act) → note_at h f ≡ Some (notes.Act a) → PastByStep h e f a
PastByStep-of h e f a is_act = record {
  here = λ same. let P : ℕ → Type 0 = λ g. InPast h e g in subst P same itself;
  previous = λ some p. in_log (StoodBefore-from_last h f a is_act some) p;
  cause = λ some p. by_cause (record { act = a; is_act = is_act; names = refl; some = some }) p;
  only = λ p. go p is_act;
} where
  go : {g : ℕ} → InPast h e g → note_at h g ≡ Some (notes.Act a) → (e ≡ g) ⊎ (InPast h e (last_of (log (before h g) a.node)) ⊎ InPast h e a.by)
  go itself at = inl refl
  go (in_log {g = d} {f = g} s q) at =
      let same : s.act ≡ a = let both : Some (notes.Act s.act) ≡ Some (notes.Act a) = sym s.is_act ∙ at in cc in
      let P : Act → Type 0 = λ b. Contains (log (before h g) b.node) d in
      elim (StoodBefore-last h d g a at (subst P same s.stood)) [
        | inl last ↦ let Q : ℕ → Type 0 = λ k. InPast h e k in inr (inl (subst Q last q))
        | inr below ↦ inr (inl (in_log below q))
      ]
  go (by_cause {g = d} {f = g} s q) at =
      let same : s.act ≡ a = let both : Some (notes.Act s.act) ≡ Some (notes.Act a) = sym s.is_act ∙ at in cc in
      let Q : ℕ → Type 0 = λ k. InPast h e k in
      inr (inr (subst Q (sym s.names ∙ ap (λ (b : Act). b.by) same) q))
