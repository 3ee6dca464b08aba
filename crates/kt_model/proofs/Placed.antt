-- The history of a world that is resumed is acts alone, no more than were to be placed.
-- Cited by NeverUnfit, Resuming.
use Rattle.std.proofs.Common.{◌≡◌, ℕ, zero, suc, ◌+◌, ◌≤◌, List, [], ◌∷◌, length, Option, None, Some, inl, inr, arith}
use Rattle.std.specs.Option.{option_map}
use Rattle.kt_tuple.specs.declared.node.NodeId.{NodeId}
use Rattle.kt_history.specs.declared.note.Note.{Note}
use Rattle.kt_history.specs.declared.note.Note.TheVariants as notes
use Rattle.kt_history.specs.Log.{note_at, log, IsAct}
use Rattle.kt_history.specs.WellFormed.{HasNoCut, IsWellFormed}
use Rattle.kt_history.proofs.Shared.{note_at-push_cases, Stands-no_cut}
use Rattle.kt_model.specs.Effect.{noted}
use Rattle.kt_ckpt.specs.declared.acts.LogAct.{LogAct}
use Rattle.kt_model.specs.Placing.{Acts, number_of, act_by, note_of, next_of, or_else, next_note, placed}
use Rattle.kt_model.specs.Resumed.{MakesSense}
use Rattle.kt_model.proofs.Growing.{length-noted}

abbrev NotACut : Option Note → Type 0
NotACut None = Unit {0}
NotACut (Some (notes.Act a)) = Unit {0}
NotACut (Some (notes.Cut p keep)) = ⊥

note-acts : (h : List Note) (p : NodeId) (o : Option LogAct) → NotACut (note_of h p o)
note-acts h p None = tt
note-acts h p (Some a) = by (number_of h a.by) where
  by : (o : Option ℕ) → NotACut (option_map (act_by p a) o)
  by None = tt
  by (Some n) = tt

either-acts : (x y : Option Note) → NotACut x → NotACut y → NotACut (or_else x y)
either-acts None y is other = other
either-acts (Some x) y is other = is

next-acts : (acts : Acts) (h : List Note) (nodes : List NodeId) → NotACut (next_note acts h nodes)
unfolding next_note
next-acts acts h [] = tt
next-acts acts h (p ∷ later) = either-acts (next_of acts h p) (next_note acts h later) (note-acts h p _) (next-acts acts h later)

noted-no_cut : (h : List Note) (note : Option Note) → NotACut note → HasNoCut h → HasNoCut (noted h note)
noted-no_cut h None is none = none
noted-no_cut h (Some (notes.Act a)) is none = record {
  none = λ n p keep e. elim (note_at-push_cases h (notes.Act a) n (notes.Cut p keep) e) [
    | inl old ↦ none.none n p keep old.1
    | inr now ↦ absurd (cc (now.1))
  ];
}
noted-no_cut h (Some (notes.Cut p keep)) is none = absurd is

pub placed-no_cut : (acts : Acts) (nodes : List NodeId) (n : ℕ) (h : List Note) → HasNoCut h → HasNoCut (placed acts nodes n h)
unfolding placed
placed-no_cut acts nodes zero h none = none
placed-no_cut acts nodes (suc n) h none =
    placed-no_cut acts nodes n (noted h (next_note acts h nodes)) (noted-no_cut h (next_note acts h nodes) (next-acts acts h nodes) none)

pub placed-few : (acts : Acts) (nodes : List NodeId) (n : ℕ) (h : List Note) → length (placed acts nodes n h) ≤ length h + n
unfolding placed
placed-few acts nodes zero h = omega arith
placed-few acts nodes (suc n) h =
    let more = placed-few acts nodes n (noted h (next_note acts h nodes)) in
    let one = length-noted h (next_note acts h nodes) in
    omega (arith, more, one)

-- ---- a history of acts, each of which makes sense where it stands in its node's log

pub sense-well_formed : (h : List Note) → HasNoCut h → ((p : NodeId) → MakesSense h p) → IsWellFormed h
sense-well_formed h none sense = record { fits = fits } where
  fits : (n : ℕ) (note : Note) → note_at h n ≡ Some note → Rattle.kt_history.specs.WellFormed.Fits (Rattle.kt_history.specs.Log.before h n) note
  fits n (notes.Act a) e =
      let stands = Stands-no_cut h n none (a, e) in
      sense stands.0 n a stands.1 e
  fits n (notes.Cut p keep) e = absurd (none.none n p keep e)
