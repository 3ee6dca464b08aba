-- What a history keeps agrees with its notes: at first, and whatever the marks and rows are called.
-- Cited by KeepingActs, KeepingCuts, `History::add_act`, `History::add_cut`, `History::new`, `History::survives`.
use Rattle.std.proofs.Common.{◌≡◌, ℕ, zero, suc, ◌-◌, ◌<◌, ◌≤◌, ◌||◌, Bool, List, [], length, get_or}
use Rattle.std.proofs.Common.{Option, None, Some, refl, sym, ap, ◌∙◌, subst, arith, ◌↔◌, IsTrue}
use Rattle.std.specs.List.{slice_get}
use Rattle.std.proofs.lemmas.Bool.{ne_eqb}
use Rattle.std.proofs.lemmas.Option.{none-some}
use Rattle.kt_tuple.specs.declared.node.NodeId.{NodeId}
use Rattle.kt_tuple.specs.Node.{node_index}
use Rattle.kt_history.specs.declared.note.Act.{Act}
use Rattle.kt_history.specs.declared.note.Note.{Note}
use Rattle.kt_history.specs.declared.note.Note.TheVariants as notes
use Rattle.kt_history.specs.declared.mark.Mark.{Mark}
use Rattle.kt_history.specs.Log.{before, log}
use Rattle.kt_history.specs.Survival.{Survives, survives}
use Rattle.kt_history.specs.WellFormed.{MayFollow, CausesComeFirst}
use Rattle.std.specs.declared.vec.Vec.{Vec}
use Rattle.std.specs.declared.alloc.Global.{Global}
use Rattle.kt_history.proofs.RowSteps.{row_at-rows_of}
use Rattle.kt_history.specs.auxiliary.Marks.{rows_of, lasts, mark_at, lasts_in, LooksBack, AreMarksOf, row_at, Agrees}
use Rattle.kt_history.proofs.Logs.{log-empty, note_at-within, length-before_note}
use Rattle.kt_history.proofs.Pasts.{CausesComeFirst-empty}
use Rattle.kt_history.proofs.Survivors.{survives-decides, Survives-act}
use Rattle.kt_history.proofs.Changes.{cause_within}

-- the empty history
pub Agrees-empty : Agrees [] [] [] 0
Agrees-empty = record {
  causes = CausesComeFirst-empty;
  logs = λ p. sym (log-empty p);
  lengths = refl;
  survive = λ k lt. absurd (omega (arith, lt));
  previous = λ k a e. absurd (none-some (notes.Act a) e);
  place = λ k a e. absurd (none-some (notes.Act a) e);
  back = λ k lt. absurd (omega (arith, lt));
  counted = refl;
}

pub LooksBack-from : (h : List Note) → CausesComeFirst h → (k : ℕ) → LooksBack (slice_get h k) k
LooksBack-from h w k = go (slice_get h k) refl where
  go : (o : Option Note) → slice_get h k ≡ o → LooksBack o k
  go None e = tt
  go (Some (notes.Cut p keep)) e = tt
  go (Some (notes.Act a)) e =
      omega (arith, cause_within (before h (suc k)) a (w.follows (suc k) (notes.Act a) e), length-before_note h (suc k) (notes.Act a) e)

pub Agrees-marks_of : (h : List Note) (rows : List (List ℕ)) (marks : List Mark) (lost : ℕ) → Agrees h rows marks lost → AreMarksOf h marks
Agrees-marks_of h rows marks lost a = record {
  lengths = a.lengths;
  previous = a.back;
  causes = λ k lt. LooksBack-from h a.causes k;
}

-- what the marks say of a number is what the history says
pub Agrees-lasts : (h : List Note) (rows : List (List ℕ)) (marks : List Mark) (lost : ℕ) → Agrees h rows marks lost → (n : ℕ) → n ≤ length h
    → lasts_in marks n ≡ lasts h n
Agrees-lasts h rows marks lost a zero le = refl
Agrees-lasts h rows marks lost a (suc k) le =
    a.survive k (omega (arith, le)) ∙ ap (λ b. b || survives h (suc k)) (sym (ne_eqb (suc k) 0 (λ e. omega (arith, e))))

pub lasts-step : (h : List Note) (marks : List Mark) (n : ℕ) → ((k : ℕ) → suc k ≡ n → (mark_at marks k).survives ≡ survives h (suc k))
    → lasts_in marks n ≡ lasts h n
lasts-step h marks zero same = refl
lasts-step h marks (suc k) same =
    same k refl ∙ ap (λ b. b || survives h (suc k)) (sym (ne_eqb (suc k) 0 (λ e. omega (arith, e))))

-- the answer of the history is survival
pub survives-answer : (h : List Note) (rows : List (List ℕ)) (marks : List Mark) (lost : ℕ) → Agrees h rows marks lost → (n : ℕ) (r : Bool) → 1 ≤ n
    → n ≤ length h → r ≡ (mark_at marks (n - 1)).survives → IsTrue r ↔ Survives h n
survives-answer h rows marks lost a n r low high e =
    let there : suc (n - 1) ≡ n = omega (arith, low) in
    let same : r ≡ survives h n = e ∙ a.survive (n - 1) (omega (arith, low, high)) ∙ ap (survives h) there in
    let d = survives-decides h a.causes n in
    (λ t. d.0 (sym same ∙ t), λ s. same ∙ d.1 s)

-- a number that names no note survives nowhere
pub survives-none : (h : List Note) (rows : List (List ℕ)) (marks : List Mark) (lost : ℕ) → Agrees h rows marks lost → (n : ℕ) → ((1 ≤ n) × (n ≤ length h) → ⊥)
    → Survives h n → ⊥
survives-none h rows marks lost a n out s =
    let act = Survives-act h a.causes n s in
    out (note_at-within h n (notes.Act act.0) act.1)

-- the same rows in a table that grew
pub Agrees-same_rows : (h : List Note) (rows more : List (List ℕ)) (marks : List Mark) (lost : ℕ) → Agrees h rows marks lost
    → ((i : ℕ) → row_at more i ≡ row_at rows i) → Agrees h more marks lost
Agrees-same_rows h rows more marks lost a same = record {
  causes = a.causes;
  logs = λ p. same (node_index p) ∙ a.logs p;
  lengths = a.lengths;
  survive = a.survive;
  previous = a.previous;
  place = a.place;
  back = a.back;
  counted = a.counted;
}

-- the same with other names
pub Agrees-at : (h h' : List Note) (rows rows' : List (List ℕ)) (marks marks' : List Mark) (lost lost' : ℕ) → h' ≡ h → rows' ≡ rows → marks' ≡ marks
    → lost' ≡ lost → Agrees h rows marks lost → Agrees h' rows' marks' lost'
Agrees-at h h' rows rows' marks marks' lost lost' e f g k a =
    let P : List Note → Type 0 = λ x. Agrees x rows' marks' lost' in
    let Q : List (List ℕ) → Type 0 = λ x. Agrees h x marks' lost' in
    let R : List Mark → Type 0 = λ x. Agrees h rows x lost' in
    let S : ℕ → Type 0 = λ x. Agrees h rows marks x in
    subst P (sym e) (subst Q (sym f) (subst R (sym g) (subst S (sym k) a)))

pub MayFollow-at : (h h' : List Note) (note : Note) → h' ≡ h → MayFollow h note → MayFollow h' note
MayFollow-at h h' note e m = let P : List Note → Type 0 = λ x. MayFollow x note in subst P (sym e) m

-- the vector at a node's place holds the node's log
pub Agrees-row : (h : List Note) (table more : List (Vec ℕ Global)) (marks : List Mark) (lost : ℕ) → Agrees h (rows_of table) marks lost
    → ((i : ℕ) → row_at (rows_of more) i ≡ row_at (rows_of table) i) → (p : NodeId) (i : ℕ) (v : Vec ℕ Global) → i ≡ node_index p → i < length more
    → v ≡ get_or more i v → v.items ≡ log h p
Agrees-row h table more marks lost a same p i v is_place lt at =
    sym (row_at-rows_of more i v lt at) ∙ same i ∙ ap (row_at (rows_of table)) is_place ∙ a.logs p

pub AreMarksOf-at : (h h' : List Note) (marks marks' : List Mark) → h' ≡ h → marks' ≡ marks → AreMarksOf h marks → AreMarksOf h' marks'
AreMarksOf-at h h' marks marks' e f a =
    let P : List Note → Type 0 = λ x. AreMarksOf x marks' in
    let Q : List Mark → Type 0 = λ x. AreMarksOf h x in
    subst P (sym e) (subst Q (sym f) a)
