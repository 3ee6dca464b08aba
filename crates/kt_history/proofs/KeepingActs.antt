-- What a history keeps goes on agreeing with its notes by one act more.
-- Cited by `History::add_act`.
use Rattle.std.proofs.Common.{◌≡◌, ℕ, suc, ◌+◌, ◌<◌, ◌≤◌, ◌&&◌, cond, List, [], ◌∷◌, ◌++◌, set, length, refl, sym, ap, ◌∙◌, subst, inl, inr, arith}
use Rattle.std.proofs.lemmas.List.{length_push, length-map, get_or_append_left, get_or_push, get_or-set_same, get_or-set_other}
use Rattle.std.proofs.lemmas.Bool.{cases_Bool, cases_lt, eqb-false}
use Rattle.kt_tuple.specs.declared.node.NodeId.{NodeId}
use Rattle.kt_tuple.specs.Node.{node_index}
use Rattle.kt_history.specs.declared.note.Act.{Act}
use Rattle.kt_history.specs.declared.note.Note.{Note}
use Rattle.kt_history.specs.declared.note.Note.TheVariants as notes
use Rattle.kt_history.specs.declared.mark.Mark.{Mark}
use Rattle.kt_history.specs.Log.{before, same_node, log, last_of}
use Rattle.kt_history.specs.Survival.{survives}
use Rattle.kt_history.specs.WellFormed.{MayFollow, CausesComeFirst}
use Rattle.std.specs.declared.vec.Vec.{Vec}
use Rattle.std.specs.declared.alloc.Global.{Global}
use Rattle.kt_history.specs.auxiliary.Marks.{rows_of, lasts, no_mark, mark_at, lasts_in, act_mark, is_lost, row_at, Agrees}
use Rattle.kt_history.proofs.Logs.{same_node-true, log-own_act, log-other_act, note_at-push_cases, before-old, before-new}
use Rattle.kt_history.proofs.Pasts.{CausesComeFirst-push}
use Rattle.kt_history.proofs.Changes.{last_of-within, cause_within, survives-act_old, survives-act_new}
use Rattle.kt_history.proofs.MarkSteps.{lost_among-push}
use Rattle.kt_history.proofs.Keeping.{Agrees-lasts, Agrees-same_rows, Agrees-at}

-- one act more
pub Agrees-act : (h : List Note) (rows : List (List ℕ)) (marks : List Mark) (lost : ℕ) (act : Act) → Agrees h rows marks lost → MayFollow h (notes.Act act)
    → node_index act.node < length rows → Agrees (h ++ notes.Act act ∷ [])
    (set rows (node_index act.node) (row_at rows (node_index act.node) ++ suc (length h) ∷ []))
    (marks ++ act_mark marks (last_of (log h act.node)) act.by (length (log h act.node) + 1) ∷ [])
    (lost + cond (is_lost (notes.Act act) (act_mark marks (last_of (log h act.node)) act.by (length (log h act.node) + 1))) 1 0)
Agrees-act h rows marks lost act a may lt = record {
  causes = w';
  logs = logs;
  lengths = omega (arith, length_push marks mark, length_push h (notes.Act act), a.lengths);
  survive = λ k within. elim (cases_lt k (length h)) [
    | inl old ↦ ap (λ (m : Mark). m.survives) (old_mark k old) ∙ a.survive k old ∙ sym (survives-act_old h act a.causes w' (suc k) (omega (arith, old)))
    | inr new ↦
        let here : k ≡ length h = omega (arith, new, within, length_push h (notes.Act act)) in
        let P : ℕ → Type 0 = λ j. (mark_at (marks ++ mark ∷ []) j).survives ≡ survives (h ++ notes.Act act ∷ []) (suc j) in
        subst P (sym here) (ap (λ (m : Mark). m.survives) new_mark ∙ new_survives ∙ sym (survives-act_new h act a.causes w' may))
  ];
  previous = λ k b e. elim (note_at-push_cases h (notes.Act act) (suc k) (notes.Act b) e) [
    | inl old ↦
        let small : k < length h = omega (arith, old.0) in
        ap (λ (m : Mark). m.previous) (old_mark k small) ∙ a.previous k b old.1
        ∙ ap (λ past. last_of (log past b.node)) (sym (before-old h (notes.Act act ∷ []) (suc k) (omega (arith, small))))
    | inr new ↦
        let here : k ≡ length h = omega (arith, new.0) in
        let same : act ≡ b = let both = new.1 in cc in
        let P : ℕ → Type 0 = λ j. (mark_at (marks ++ mark ∷ []) j).previous ≡ last_of (log (before (h ++ notes.Act act ∷ []) (suc j)) b.node) in
        subst P (sym here)
        (ap (λ (m : Mark). m.previous) new_mark
        ∙ ap (λ (c : Act). last_of (log h c.node)) same
        ∙ ap (λ past. last_of (log past b.node)) (sym (before-new h (notes.Act act))))
  ];
  place = λ k b e. elim (note_at-push_cases h (notes.Act act) (suc k) (notes.Act b) e) [
    | inl old ↦
        let small : k < length h = omega (arith, old.0) in
        ap (λ (m : Mark). m.place) (old_mark k small) ∙ a.place k b old.1
        ∙ ap (λ past. length (log past b.node) + 1) (sym (before-old h (notes.Act act ∷ []) (suc k) (omega (arith, small))))
    | inr new ↦
        let here : k ≡ length h = omega (arith, new.0) in
        let same : act ≡ b = let both = new.1 in cc in
        let P : ℕ → Type 0 = λ j. (mark_at (marks ++ mark ∷ []) j).place ≡ length (log (before (h ++ notes.Act act ∷ []) (suc j)) b.node) + 1 in
        subst P (sym here)
        (ap (λ (m : Mark). m.place) new_mark
        ∙ ap (λ (c : Act). length (log h c.node) + 1) same
        ∙ ap (λ past. length (log past b.node) + 1) (sym (before-new h (notes.Act act))))
  ];
  back = λ k within. elim (cases_lt k (length h)) [
    | inl old ↦ omega (arith, ap (λ (m : Mark). m.previous) (old_mark k old), a.back k old)
    | inr new ↦
        let here : k ≡ length h = omega (arith, new, within, length_push h (notes.Act act)) in
        let P : ℕ → Type 0 = λ j. (mark_at (marks ++ mark ∷ []) j).previous ≤ j in
        subst P (sym here) (omega (arith, ap (λ (m : Mark). m.previous) new_mark, last_of-within h act.node))
  ];
  counted = omega (arith, lost_among-push h marks (notes.Act act) mark a.lengths, a.counted);
} where
  mark : Mark
  mark = act_mark marks (last_of (log h act.node)) act.by (length (log h act.node) + 1)

  w' : CausesComeFirst (h ++ notes.Act act ∷ [])
  w' = CausesComeFirst-push h (notes.Act act) a.causes may

  old_mark : (k : ℕ) → k < length h → mark_at (marks ++ act_mark marks (last_of (log h act.node)) act.by (length (log h act.node) + 1) ∷ []) k
      ≡ mark_at marks k
  old_mark k old = get_or_append_left marks (act_mark marks (last_of (log h act.node)) act.by (length (log h act.node) + 1) ∷ [])
      no_mark k (omega (arith, old, a.lengths))

  new_mark : mark_at (marks ++ act_mark marks (last_of (log h act.node)) act.by (length (log h act.node) + 1) ∷ []) (length h)
      ≡ act_mark marks (last_of (log h act.node)) act.by (length (log h act.node) + 1)
  new_mark = get_or_push marks (act_mark marks (last_of (log h act.node)) act.by (length (log h act.node) + 1)) no_mark (length h) a.lengths

  new_survives : (lasts_in marks (last_of (log h act.node)) && lasts_in marks act.by) ≡ (lasts h (last_of (log h act.node)) && lasts h act.by)
  new_survives =
      ap (λ b. b && lasts_in marks act.by) (Agrees-lasts h rows marks lost a (last_of (log h act.node)) (last_of-within h act.node))
      ∙ ap (λ b. lasts h (last_of (log h act.node)) && b) (Agrees-lasts h rows marks lost a act.by (cause_within h act may))

  logs : (p : NodeId) → row_at (set rows (node_index act.node) (row_at rows (node_index act.node) ++ suc (length h) ∷ [])) (node_index p) ≡ log
      (h ++ notes.Act act ∷ []) p
  logs p = elim (cases_Bool (same_node act.node p)) [
    | inl own_log ↦
        let P : NodeId → Type 0 = λ q. row_at (set rows (node_index act.node) (row_at rows (node_index act.node) ++ suc (length h) ∷ [])) (node_index q) ≡ log
        (h ++ notes.Act act ∷ []) q in
        subst P (same_node-true act.node p own_log)
        (get_or-set_same rows (node_index act.node) (row_at rows (node_index act.node) ++ suc (length h) ∷ []) [] lt
        ∙ ap (λ xs. xs ++ suc (length h) ∷ []) (a.logs act.node)
        ∙ sym (log-own_act h act))
    | inr other ↦
        get_or-set_other rows (node_index act.node) (node_index p) (row_at rows (node_index act.node) ++ suc (length h) ∷ []) []
        (λ e. eqb-false (node_index act.node) (node_index p) other (sym e))
        ∙ a.logs p
        ∙ sym (log-other_act h act p other)
  ]

-- an act more, as it is written down
pub Agrees-pushed_act : (h : List Note) (table more : List (Vec ℕ Global)) (marks : List Mark) (lost : ℕ) (act : Act) → Agrees h (rows_of table) marks lost
    → MayFollow h (notes.Act act) → ((i : ℕ) → row_at (rows_of more) i ≡ row_at (rows_of table) i)
    → (i number previous spot : ℕ) (mark : Mark) (table' : List (Vec ℕ Global)) → i ≡ node_index act.node → i < length more → number ≡ suc (length h)
    → previous ≡ last_of (log h act.node) → spot ≡ length (log h act.node) + 1 → mark ≡ act_mark marks previous act.by spot
    → rows_of table' ≡ set (rows_of more) i (row_at (rows_of more) i ++ number ∷ [])
    → Agrees (h ++ notes.Act act ∷ []) (rows_of table') (marks ++ mark ∷ []) (lost + cond (is_lost (notes.Act act) mark) 1 0)
Agrees-pushed_act h table more marks lost act a may same i number previous spot mark table' place lt is_number is_previous is_spot is_mark is_table =
    let b = Agrees-same_rows h (rows_of table) (rows_of more) marks lost a same in
    let len = length-map more (λ (row : Vec ℕ Global). row.items) in
    let marked : mark ≡ act_mark marks (last_of (log h act.node)) act.by (length (log h act.node) + 1) =
    is_mark ∙ ap (λ n. act_mark marks n act.by spot) is_previous
    ∙ ap (act_mark marks (last_of (log h act.node)) act.by) is_spot in
    Agrees-at _ _ _ _ _ _ _ _ refl
    (is_table ∙ ap (λ n. set (rows_of more) i (row_at (rows_of more) i ++ n ∷ [])) is_number
    ∙ ap (λ j. set (rows_of more) j (row_at (rows_of more) j ++ suc (length h) ∷ [])) place)
    (ap (λ m. marks ++ m ∷ []) marked)
    (ap (λ m. lost + cond (is_lost (notes.Act act) m) 1 0) marked)
    (Agrees-act h (rows_of more) marks lost act b may (omega (arith, lt, len, place)))
