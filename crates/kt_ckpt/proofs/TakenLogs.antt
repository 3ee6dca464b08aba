-- The acts of a log, taken one number at a time.
-- Cited by `past::acts_of`.
use Rattle.std.proofs.Common.{◌≡◌, ℕ, ◌+◌, ◌<◌, List, [], ◌∷◌, ◌++◌, length, map, take, get_or, Option, Some, None, refl, sym, ap, ◌∙◌}
use Rattle.std.proofs.lemmas.List.{append-nil, map-append, take_more}
use Rattle.std.proofs.lemmas.List.Elements.{filter_map-append}
use Rattle.kt_history.specs.declared.note.Act.{Act}
use Rattle.kt_history.specs.declared.note.Note.{Note}
use Rattle.kt_history.specs.Log.{note_at}
use Rattle.kt_history.specs.Closed.{act_of, acts_at}
use Rattle.kt_ckpt.specs.declared.acts.LogAct.{LogAct}
use Rattle.kt_ckpt.specs.LogActs.{log_act}

-- those of the first numbers
abbrev pub first_acts : List Note → List ℕ → ℕ → List LogAct
first_acts h log i = map (log_act h) (acts_at h (take i log))

numbers_more : (h : List Note) (log : List ℕ) (i n : ℕ) (found : List Act) → i < length log → n ≡ get_or log i 0 → acts_at h (n ∷ []) ≡ found
    → acts_at h (take (i + 1) log) ≡ acts_at h (take i log) ++ found
numbers_more h log i n found lt is last =
    ap (acts_at h) (take_more log i 0 lt ∙ ap (λ (k : ℕ). take i log ++ k ∷ []) (sym is))
    ∙ filter_map-append (λ k. act_of (note_at h k)) (take i log) (n ∷ [])
    ∙ ap (λ (acts : List Act). acts_at h (take i log) ++ acts) last

pub act_more : (h : List Note) (log : List ℕ) (i n : ℕ) (a : Act) (acts : List LogAct) (new : LogAct) → i < length log → n ≡ get_or log i 0
    → act_of (note_at h n) ≡ Some a → acts ≡ first_acts h log i → new ≡ log_act h a → acts ++ new ∷ [] ≡ first_acts h log (i + 1)
act_more h log i n a acts new lt is found before made =
    let last : acts_at h (n ∷ []) ≡ a ∷ [] = rw (found) refl in
    ap (λ (xs : List LogAct). xs ++ new ∷ []) before
    ∙ ap (λ (x : LogAct). first_acts h log i ++ x ∷ []) made
    ∙ sym (map-append (log_act h) (acts_at h (take i log)) (a ∷ []))
    ∙ ap (map (log_act h)) (sym (numbers_more h log i n (a ∷ []) lt is last))

pub none_more : (h : List Note) (log : List ℕ) (i n : ℕ) (acts : List LogAct) → i < length log → n ≡ get_or log i 0
    → act_of (note_at h n) ≡ None → acts ≡ first_acts h log i → acts ≡ first_acts h log (i + 1)
none_more h log i n acts lt is found before =
    let last : acts_at h (n ∷ []) ≡ [] = rw (found) refl in
    before ∙ ap (map (log_act h)) (sym (numbers_more h log i n [] lt is last ∙ append-nil (acts_at h (take i log))))
