-- What a history keeps goes on agreeing with its notes by one cut more.
-- Cited by `History::add_cut`.
use Rattle.std.proofs.Common.{◌≡◌, ℕ, zero, suc, ◌+◌, ◌<◌, ◌≤◌, ◌==◌, ◌&&◌, not, false, List, [], ◌∷◌, ◌++◌, take, drop, set}
use Rattle.std.proofs.Common.{length, get_or, Option, None, Some, refl, sym, ap, ◌∙◌, subst, inl, inr, arith, Contains, add-zero}
use Rattle.std.specs.List.{slice_get, list_any}
use Rattle.std.proofs.lemmas.List.{length_push, get_or_append_left, get_or_push, get_or-set_same, get_or-set_other, take_all, set_past, get_or_past}
use Rattle.std.proofs.lemmas.List.Elements.{Contains-get_or}
use Rattle.std.proofs.lemmas.Bool.{cases_Bool, cases_eq, cases_lt, eqb-false}
use Rattle.std.proofs.lemmas.Option.{slice_get-get_or, none-some}
use Rattle.kt_tuple.specs.declared.node.NodeId.{NodeId}
use Rattle.kt_tuple.specs.Node.{node_index}
use Rattle.kt_history.specs.declared.note.Act.{Act}
use Rattle.kt_history.specs.declared.note.Note.{Note}
use Rattle.kt_history.specs.declared.note.Note.TheVariants as notes
use Rattle.kt_history.specs.declared.mark.Mark.{Mark}
use Rattle.kt_history.specs.Log.{note_at, before, same_node, log, last_of}
use Rattle.kt_history.specs.Survival.{survives}
use Rattle.kt_history.specs.WellFormed.{MayFollow, CausesComeFirst}
use Rattle.kt_history.specs.auxiliary.Marks.{lasts, no_mark, mark_at, lasts_in, unmarked, renewed, AreLost, HasLost, lost_among, row_at, Agrees}
use Rattle.kt_history.proofs.Lists.{slice_get-drop, slice_get-from_Contains, Contains-from_slice_get}
use Rattle.kt_history.proofs.Logs.{same_node-true, log-own, log-own_cut, log-other_cut, note_at-old}
use Rattle.kt_history.proofs.Logs.{note_at-new, note_at-within, note_at-push_cases, before-old, length-before_note}
use Rattle.kt_history.proofs.Pasts.{CausesComeFirst-push}
use Rattle.kt_history.proofs.Survivors.{survives-decides, Survives-act}
use Rattle.kt_history.proofs.Changes.{cause_within, survives-cut, survives-cut_before, drop-log-from_first}
use Rattle.kt_history.proofs.MarkSteps.{lost_among-push, renewed-place, renewed-previous}
use Rattle.kt_history.proofs.Keeping.{lasts-step, Agrees-at}

-- what a cut takes out of a log
pub AreLost-from_cut : (h : List Note) (p : NodeId) (keep : ℕ) → 0 < length (drop keep (log h p)) → AreLost h (drop keep (log h p))
AreLost-from_cut h p keep some = record {
  some = some;
  positive = (each (get_or numbers 0 0) first_is).0;
  first_within = (each (get_or numbers 0 0) first_is).1;
  least = λ n c. drop-log-from_first h p keep (get_or numbers 0 0) n at_keep c;
  within = each;
} where
  numbers : List ℕ
  numbers = drop keep (log h p)

  each : (n : ℕ) → Contains (drop keep (log h p)) n → (1 ≤ n) × (n ≤ length h)
  each n c =
      let far = slice_get-from_Contains (drop keep (log h p)) n c in
      let own = log-own h p n (Contains-from_slice_get (log h p) (keep + far.0) n (sym (slice_get-drop keep (log h p) far.0) ∙ far.1)) in
      note_at-within h n (notes.Act own.act) own.is_act

  first_is : Contains (drop keep (log h p)) (get_or (drop keep (log h p)) 0 0)
  first_is = Contains-get_or (drop keep (log h p)) 0 0 some

  at_keep : slice_get (log h p) keep ≡ Some (get_or (drop keep (log h p)) 0 0)
  at_keep = ap (slice_get (log h p)) (sym (add-zero keep)) ∙ sym (slice_get-drop keep (log h p) 0) ∙ slice_get-get_or (drop keep (log h p)) 0 0 some

survives-no_act : (h : List Note) → CausesComeFirst h → (n : ℕ) (p : NodeId) (keep : ℕ) → note_at h n ≡ Some (notes.Cut p keep) → survives h n ≡ false
survives-no_act h w n p keep e = elim (cases_Bool (survives h n)) [
  | inl lives ↦
      let act = Survives-act h w n ((survives-decides h w n).0 lives) in
      let both : Some (notes.Act act.0) ≡ Some (notes.Cut p keep) = sym act.1 ∙ e in cc
  | inr gone ↦ gone
]

-- the marks say what survives once nothing was cut off
cut_survive_none : (h : List Note) (p : NodeId) (keep : ℕ) → CausesComeFirst h → CausesComeFirst (h ++ notes.Cut p keep ∷ [])
    → length (drop keep (log h p)) ≡ 0 → (n : ℕ) → n ≤ length h → survives (h ++ notes.Cut p keep ∷ []) n ≡ survives h n
cut_survive_none h p keep w w' none n le = survives-cut_before h p keep w w' n le (λ e c. absurd (omega (arith, c.1, none)))

-- the marks say what survives once some acts were cut off
cut_survive_some : (h : List Note) (rows : List (List ℕ)) (marks new : List Mark) (lost : ℕ) (p : NodeId) (keep : ℕ) → Agrees h rows marks lost
    → CausesComeFirst (h ++ notes.Cut p keep ∷ []) → AreLost h (drop keep (log h p)) → HasLost h (drop keep (log h p)) marks new → (bound k : ℕ) → k < bound
    → k < length h → (mark_at new k).survives ≡ survives (h ++ notes.Cut p keep ∷ []) (suc k)
cut_survive_some h rows marks new lost p keep a w' some l zero k small within = absurd (omega (arith, small))
cut_survive_some h rows marks new lost p keep a w' some l (suc bound) k small within =
    elim (cases_lt (suc k) (get_or (drop keep (log h p)) 0 0)) [
      | inl before_all ↦
          ap (λ (m : Mark). m.survives) (l.below k before_all)
          ∙ a.survive k within
          ∙ sym (survives-cut_before h p keep a.causes w' (suc k) (omega (arith, within)) (λ e c. omega (arith, before_all, some.least e c)))
      | inr behind ↦
          ap (λ (m : Mark). m.survives) (l.above k behind within)
          ∙ go (slice_get h k) refl (λ j lt. cut_survive_some h rows marks new lost p keep a w' some l bound j (omega (arith, lt, small))
          (omega (arith, lt, within)))
    ] where
      go : (o : Option Note) → slice_get h k ≡ o → ((j : ℕ) → j < k → (mark_at new j).survives ≡ survives (h ++ notes.Cut p keep ∷ []) (suc j))
          → (renewed o (unmarked (drop keep (log h p)) k (mark_at marks k)) new).survives ≡ survives (h ++ notes.Cut p keep ∷ []) (suc k)
      go None e ih = absurd (none-some (get_or h k (notes.Cut p keep)) (sym e ∙ slice_get-get_or h k (notes.Cut p keep) within))
      go (Some (notes.Cut q kept)) e ih =
          ap (λ b. b && not (list_any (λ m. m == suc k) (drop keep (log h p)))) (a.survive k within ∙ survives-no_act h a.causes (suc k) q kept e)
          ∙ sym (survives-no_act (h ++ notes.Cut p keep ∷ []) w' (suc k) q kept (note_at-old h (notes.Cut p keep ∷ []) (suc k) (omega (arith, within)) ∙ e))
      go (Some (notes.Act b)) e ih =
          let gone = list_any (λ m. m == suc k) (drop keep (log h p)) in
          let g = h ++ notes.Cut p keep ∷ [] in
          let last = last_of (log (before h (suc k)) b.node) in
          let old = mark_at marks k in
          let is_last : old.previous ≡ last = a.previous k b e in
          let back : last ≤ k = omega (arith, is_last, a.back k within) in
          let cause_back : b.by ≤ k =
          omega (arith, cause_within (before h (suc k)) b (a.causes.follows (suc k) (notes.Act b) e), length-before_note h (suc k) (notes.Act b) e) in
          ap (λ t. (t && not gone) && (lasts_in new old.previous && lasts_in new b.by)) (a.survive k within)
          ∙ ap (λ n. (survives h (suc k) && not gone) && (lasts_in new n && lasts_in new b.by)) is_last
          ∙ ap (λ t. (survives h (suc k) && not gone) && (t && lasts_in new b.by)) (lasts-step g new last (λ j same. ih j (omega (arith, same, back))))
          ∙ ap (λ t. (survives h (suc k) && not gone) && (lasts g last && t)) (lasts-step g new b.by (λ j same. ih j (omega (arith, same, cause_back))))
          ∙ sym (survives-cut h p keep a.causes w' (suc k) b e)

-- one cut more, with marks that say what survives then
cut_agrees : (h : List Note) (rows : List (List ℕ)) (marks new : List Mark) (lost more : ℕ) (p : NodeId) (keep : ℕ) → Agrees h rows marks lost
    → CausesComeFirst (h ++ notes.Cut p keep ∷ []) → length new ≡ length marks
    → ((k : ℕ) → k < length h → (mark_at new k).survives ≡ survives (h ++ notes.Cut p keep ∷ []) (suc k))
    → ((k : ℕ) → k < length h → (mark_at new k).previous ≡ (mark_at marks k).previous)
    → ((k : ℕ) → k < length h → (mark_at new k).place ≡ (mark_at marks k).place) → more ≡ lost_among h new
    → Agrees (h ++ notes.Cut p keep ∷ []) (set rows (node_index p) (take keep (row_at rows (node_index p)))) (new ++ no_mark ∷ []) more
cut_agrees h rows marks new lost more p keep a w' len survive previous placed counted = record {
  causes = w';
  logs = logs;
  lengths = omega (arith, length_push new no_mark, length_push h (notes.Cut p keep), a.lengths, len);
  survive = λ k within. elim (cases_lt k (length h)) [
    | inl old ↦ ap (λ (m : Mark). m.survives) (old_mark k old) ∙ survive k old
    | inr late ↦
        let here : k ≡ length h = omega (arith, late, within, length_push h (notes.Cut p keep)) in
        let P : ℕ → Type 0 = λ j. (mark_at (new ++ no_mark ∷ []) j).survives ≡ survives (h ++ notes.Cut p keep ∷ []) (suc j) in
        subst P (sym here) (ap (λ (m : Mark). m.survives) new_mark
        ∙ sym (survives-no_act (h ++ notes.Cut p keep ∷ []) w' (suc (length h)) p keep (note_at-new h (notes.Cut p keep))))
  ];
  previous = λ k b e. elim (note_at-push_cases h (notes.Cut p keep) (suc k) (notes.Act b) e) [
    | inl old ↦
        let small : k < length h = omega (arith, old.0) in
        ap (λ (m : Mark). m.previous) (old_mark k small) ∙ previous k small ∙ a.previous k b old.1
        ∙ ap (λ past. last_of (log past b.node)) (sym (before-old h (notes.Cut p keep ∷ []) (suc k) (omega (arith, small))))
    | inr late ↦ let both = late.1 in cc
  ];
  place = λ k b e. elim (note_at-push_cases h (notes.Cut p keep) (suc k) (notes.Act b) e) [
    | inl old ↦
        let small : k < length h = omega (arith, old.0) in
        ap (λ (m : Mark). m.place) (old_mark k small) ∙ placed k small ∙ a.place k b old.1
        ∙ ap (λ past. length (log past b.node) + 1) (sym (before-old h (notes.Cut p keep ∷ []) (suc k) (omega (arith, small))))
    | inr late ↦ let both = late.1 in cc
  ];
  back = λ k within. elim (cases_lt k (length h)) [
    | inl old ↦ omega (arith, ap (λ (m : Mark). m.previous) (old_mark k old), previous k old, a.back k old)
    | inr late ↦
        let here : k ≡ length h = omega (arith, late, within, length_push h (notes.Cut p keep)) in
        let P : ℕ → Type 0 = λ j. (mark_at (new ++ no_mark ∷ []) j).previous ≤ j in
        subst P (sym here) (omega (arith, ap (λ (m : Mark). m.previous) new_mark))
  ];
  counted = omega (arith, lost_among-push h new (notes.Cut p keep) no_mark (len ∙ a.lengths), counted);
} where
  old_mark : (k : ℕ) → k < length h → mark_at (new ++ no_mark ∷ []) k ≡ mark_at new k
  old_mark k old = get_or_append_left new (no_mark ∷ []) no_mark k (omega (arith, old, a.lengths, len))

  new_mark : mark_at (new ++ no_mark ∷ []) (length h) ≡ no_mark
  new_mark = get_or_push new no_mark no_mark (length h) (len ∙ a.lengths)

  own_row : (i : ℕ) → row_at (set rows i (take keep (row_at rows i))) i ≡ take keep (row_at rows i)
  own_row i = elim (cases_lt i (length rows)) [
    | inl within ↦ get_or-set_same rows i (take keep (row_at rows i)) [] within
    | inr past ↦
        ap (λ rs. get_or rs i []) (set_past rows i (take keep (row_at rows i)) past)
        ∙ get_or_past rows i [] past
        ∙ sym (ap (take keep) (get_or_past rows i [] past) ∙ take_all keep [] (omega arith))
  ]

  logs : (q : NodeId) → row_at (set rows (node_index p) (take keep (row_at rows (node_index p)))) (node_index q) ≡ log (h ++ notes.Cut p keep ∷ []) q
  logs q = elim (cases_Bool (same_node p q)) [
    | inl own_log ↦
        let P : NodeId → Type 0 =
        λ r. row_at (set rows (node_index p) (take keep (row_at rows (node_index p)))) (node_index r) ≡ log (h ++ notes.Cut p keep ∷ []) r in
        subst P (same_node-true p q own_log) (own_row (node_index p) ∙ ap (take keep) (a.logs p) ∙ sym (log-own_cut h p keep))
    | inr other ↦
        get_or-set_other rows (node_index p) (node_index q) (take keep (row_at rows (node_index p))) []
        (λ e. eqb-false (node_index p) (node_index q) other (sym e))
        ∙ a.logs q
        ∙ sym (log-other_cut h p keep q other)
  ]

-- one cut more
pub Agrees-cut : (h : List Note) (rows : List (List ℕ)) (marks new : List Mark) (lost more : ℕ) (p : NodeId) (keep : ℕ) → Agrees h rows marks lost
    → MayFollow h (notes.Cut p keep) → (length (drop keep (log h p)) ≡ 0 → new ≡ marks)
    → (0 < length (drop keep (log h p)) → HasLost h (drop keep (log h p)) marks new) → more ≡ lost_among h new
    → Agrees (h ++ notes.Cut p keep ∷ []) (set rows (node_index p) (take keep (row_at rows (node_index p)))) (new ++ no_mark ∷ []) more
Agrees-cut h rows marks new lost more p keep a may none some counted = elim (cases_eq (length (drop keep (log h p))) 0) [
  | inl nothing ↦
      let same : new ≡ marks = none nothing in
      cut_agrees h rows marks new lost more p keep a w' (ap length same)
      (λ k lt. ap (λ ms. (mark_at ms k).survives) same ∙ a.survive k lt ∙ sym (cut_survive_none h p keep a.causes w' nothing (suc k) (omega (arith, lt))))
      (λ k lt. ap (λ ms. (mark_at ms k).previous) same)
      (λ k lt. ap (λ ms. (mark_at ms k).place) same)
      counted
  | inr something ↦
      let positive : 0 < length (drop keep (log h p)) = omega (arith, something) in
      let lose = some positive in
      cut_agrees h rows marks new lost more p keep a w' lose.lengths
      (λ k lt. cut_survive_some h rows marks new lost p keep a w' (AreLost-from_cut h p keep positive) lose (suc k) k (omega arith) lt)
      (λ k lt. elim (cases_lt (suc k) (get_or (drop keep (log h p)) 0 0)) [
        | inl before_all ↦ ap (λ (m : Mark). m.previous) (lose.below k before_all)
        | inr behind ↦ ap (λ (m : Mark). m.previous) (lose.above k behind lt)
            ∙ renewed-previous (slice_get h k) (unmarked (drop keep (log h p)) k (mark_at marks k)) new
      ])
      (λ k lt. elim (cases_lt (suc k) (get_or (drop keep (log h p)) 0 0)) [
        | inl before_all ↦ ap (λ (m : Mark). m.place) (lose.below k before_all)
        | inr behind ↦ ap (λ (m : Mark). m.place) (lose.above k behind lt)
            ∙ renewed-place (slice_get h k) (unmarked (drop keep (log h p)) k (mark_at marks k)) new
      ])
      counted
] where
  w' : CausesComeFirst (h ++ notes.Cut p keep ∷ [])
  w' = CausesComeFirst-push h (notes.Cut p keep) a.causes may

-- what stands behind the keep in the table is what the cut takes out of the log
pub behind-is : (h : List Note) (rows : List (List ℕ)) (marks : List Mark) (lost : ℕ) → Agrees h rows marks lost → (p : NodeId) (i keep : ℕ) (numbers : List ℕ)
    → i ≡ node_index p → numbers ≡ drop keep (row_at rows i) → numbers ≡ drop keep (log h p)
behind-is h rows marks lost a p i keep numbers place e =
    e ∙ ap (λ j. drop keep (row_at rows j)) place ∙ ap (drop keep) (a.logs p)

pub AreLost-at : (h h' : List Note) (p : NodeId) (keep : ℕ) (numbers : List ℕ) → h' ≡ h → numbers ≡ drop keep (log h p) → 0 < length numbers
    → AreLost h' numbers
AreLost-at h h' p keep numbers e f some =
    let P : List Note → Type 0 = λ x. AreLost x numbers in
    let Q : List ℕ → Type 0 = λ xs. AreLost h xs in
    subst P (sym e) (subst Q (sym f) (AreLost-from_cut h p keep (omega (arith, some, ap length f))))

-- a cut more, as it is written down
pub Agrees-pushed_cut : (h h' : List Note) (rows rows' : List (List ℕ)) (marks marks' new : List Mark) (lost more : ℕ) (p : NodeId) (i keep : ℕ)
    (numbers : List ℕ) → Agrees h rows marks lost → MayFollow h (notes.Cut p keep) → h' ≡ h → marks' ≡ marks → i ≡ node_index p → numbers ≡ drop keep (log h p)
    → rows' ≡ set rows i (take keep (row_at rows i)) → (length numbers ≡ 0 → new ≡ marks') → (0 < length numbers → HasLost h' numbers marks' new)
    → more ≡ lost_among h' new → Agrees (h ++ notes.Cut p keep ∷ []) rows' (new ++ no_mark ∷ []) more
Agrees-pushed_cut h h' rows rows' marks marks' new lost more p i keep numbers a may e f place is_numbers is_rows none some counted =
    Agrees-at _ _ _ _ _ _ _ _ refl
    (is_rows ∙ ap (λ j. set rows j (take keep (row_at rows j))) place)
    refl refl
    (Agrees-cut h rows marks new lost more p keep a may
    (λ nothing. none (ap length is_numbers ∙ nothing) ∙ f)
    (λ something.
    let Q : List Note → Type 0 = λ x. HasLost x (drop keep (log h p)) marks new in
    let R : List ℕ → Type 0 = λ xs. HasLost h' xs marks new in
    let S : List Mark → Type 0 = λ ms. HasLost h' numbers ms new in
    subst Q e (subst R is_numbers (subst S f (some (omega (arith, something, ap length is_numbers))))))
    (counted ∙ ap (λ x. lost_among x new) e))
