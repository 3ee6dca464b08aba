-- Going back through a shard's log finds the last hearing of a worker.
-- Cited by other crates.
use Rattle.std.proofs.Common.{◌≡◌, ℕ, true, false, List, [], ◌∷◌, ◌++◌, Option, Some, None, refl, sym, ap, ◌∙◌}
use Rattle.std.specs.Prelude.{find, reverse}
use Rattle.std.specs.List.{cons_option}
use Rattle.std.proofs.lemmas.List.{reverse-append}
use Rattle.std.proofs.lemmas.List.Elements.{filter_map-append}
use Rattle.kt_history.specs.declared.note.Act.{Act}
use Rattle.kt_history.specs.declared.note.Note.{Note}
use Rattle.kt_history.specs.Log.{note_at}
use Rattle.kt_history.specs.Closed.{act_of, acts_at}
use Rattle.kt_logs.specs.Cause.{hears_worker, cause_of, cause_among}

-- the acts of numbers with one more at the end, backwards
backwards : (h : List Note) (before : List ℕ) (n : ℕ) (rest : List ℕ) → rest ≡ before ++ n ∷ []
    → reverse (acts_at h rest) ≡ cons_option (act_of (note_at h n)) (reverse (acts_at h before))
backwards h before n rest e =
    ap (λ (l : List ℕ). reverse (acts_at h l)) e
    ∙ ap reverse (filter_map-append (λ m. act_of (note_at h m)) before (n ∷ []))
    ∙ turned (act_of (note_at h n)) (acts_at h before)
  where
    turned : (o : Option Act) (acts : List Act) → reverse (acts ++ cons_option o []) ≡ cons_option o (reverse acts)
    turned None acts = reverse-append acts []
    turned (Some a) acts = reverse-append acts (a ∷ [])

pub heard_here : (h : List Note) (before : List ℕ) (n : ℕ) (rest : List ℕ) (worker : ℕ) (a : Act) (total : ℕ) → rest ≡ before ++ n ∷ []
    → Some a ≡ act_of (note_at h n)
    → true ≡ hears_worker worker a → cause_among h rest worker ≡ total → a.by ≡ total
heard_here h before n rest worker a total e is hears so_far =
    let turned : reverse (acts_at h rest) ≡ a ∷ reverse (acts_at h before) =
    backwards h before n rest e ∙ ap (λ (o : Option Act). cons_option o (reverse (acts_at h before))) (sym is) in
    let found : find (hears_worker worker) (a ∷ reverse (acts_at h before)) ≡ Some a = rw (← hears) refl in
    sym (ap (λ (acts : List Act). cause_of (find (hears_worker worker) acts)) turned ∙ ap cause_of found) ∙ so_far

pub not_heard : (h : List Note) (before : List ℕ) (n : ℕ) (rest : List ℕ) (worker : ℕ) (a : Act) (total : ℕ) → rest ≡ before ++ n ∷ []
    → Some a ≡ act_of (note_at h n)
    → false ≡ hears_worker worker a → cause_among h rest worker ≡ total → cause_among h before worker ≡ total
not_heard h before n rest worker a total e is hears so_far =
    let turned : reverse (acts_at h rest) ≡ a ∷ reverse (acts_at h before) =
    backwards h before n rest e ∙ ap (λ (o : Option Act). cons_option o (reverse (acts_at h before))) (sym is) in
    let passed : find (hears_worker worker) (a ∷ reverse (acts_at h before)) ≡ find (hears_worker worker) (reverse (acts_at h before)) = rw (← hears) refl in
    sym (ap (λ (acts : List Act). cause_of (find (hears_worker worker) acts)) turned ∙ ap cause_of passed) ∙ so_far

pub no_act : (h : List Note) (before : List ℕ) (n : ℕ) (rest : List ℕ) (worker : ℕ) (total : ℕ) → rest ≡ before ++ n ∷ [] → None ≡ act_of (note_at h n)
    → cause_among h rest worker ≡ total → cause_among h before worker ≡ total
no_act h before n rest worker total e is so_far =
    let turned : reverse (acts_at h rest) ≡ reverse (acts_at h before) =
    backwards h before n rest e ∙ ap (λ (o : Option Act). cons_option o (reverse (acts_at h before))) (sym is) in
    sym (ap (λ (acts : List Act). cause_of (find (hears_worker worker) acts)) turned) ∙ so_far
