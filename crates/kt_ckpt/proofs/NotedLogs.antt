-- The acts of a log, as checkpoints hold them: as many as the log has numbers, and what they are as the history grows.
-- Cited by Gatherings, `past::acts_behind`, `past::are_fit_behind`; other crates.
use Rattle.std.proofs.Common.{◌≡◌, ℕ, zero, suc, ◌+◌, ◌<◌, ◌≤◌, Bool, true, false, List, [], ◌∷◌, ◌++◌, take, drop, length, map}
use Rattle.std.proofs.Common.{Option, Some, None, inl, inr, refl, sym, ap, ◌∙◌, subst, arith, length-append}
use Rattle.std.specs.Prelude.{Contains}
use Rattle.std.specs.List.{cons_option}
use Rattle.std.proofs.lemmas.Bool.{cases_Bool}
use Rattle.std.proofs.lemmas.List.{length-map, take-append-le, take-map, take-take, length-take-le}
use Rattle.kt_tuple.specs.declared.node.NodeId.{NodeId}
use Rattle.kt_history.specs.declared.note.Act.{Act}
use Rattle.kt_history.specs.declared.note.Note.{Note}
use Rattle.kt_history.specs.declared.note.Note.TheVariants as notes
use Rattle.kt_history.specs.Log.{note_at, before, log, same_node, IsAct}
use Rattle.kt_history.specs.Place.{place}
use Rattle.kt_history.specs.Closed.{act_of, acts_at, acts_in_log}
use Rattle.kt_history.specs.WellFormed.{CausesComeFirst}
use Rattle.kt_history.proofs.Shared.{place-old, note_at-old, note_at-within, note_before, same_node-true, log-own}
use Rattle.kt_history.proofs.Shared.{Contains-here, Contains-there}
use Rattle.kt_history.proofs.Shared.{acts_in_log-own_act, acts_in_log-own_cut, acts_in_log-other_act, acts_in_log-other_cut}
use Rattle.kt_ckpt.specs.declared.acts.LogAct.{LogAct}
use Rattle.kt_ckpt.specs.LogActs.{placed, node_placed, log_act, log_acts}

-- ---- one act

placed-old : (h g : List Note) (n : ℕ) → n ≤ length h → placed (h ++ g) n ≡ placed h n
placed-old h g n le =
    ap (λ o. node_placed (act_of o) (place (h ++ g) n)) (note_at-old h g n le) ∙ ap (node_placed (act_of (note_at h n))) (place-old h g n le)

-- the cause of an act is 0 or an earlier number
cause-within : (h : List Note) → CausesComeFirst h → (n : ℕ) (a : Act) → note_at h n ≡ Some (notes.Act a) → a.by ≤ length h
cause-within h causes n a is = by a.by refl
  where
    by : (k : ℕ) → a.by ≡ k → k ≤ length h
    by zero e = omega arith
    by (suc k) e =
        let cause : IsAct (before h n) a.by = causes.follows n (notes.Act a) is (λ z. omega (arith, z, e)) in
        let here = note_before h n (notes.Act a) a.by (notes.Act cause.0) is cause.1 in
        let within = note_at-within h a.by (notes.Act cause.0) here.1 in
        omega (arith, within, e)

log_act-old : (h g : List Note) (a : Act) → a.by ≤ length h → log_act (h ++ g) a ≡ log_act h a
log_act-old h g a le =
    ap (λ (by : Option (NodeId × ℕ)). let x : LogAct = record { by = by; worker = a.worker; number = a.number; op = a.op; what = a.what } in x)
    (placed-old h g a.by le)

same-acts : (h g : List Note) → CausesComeFirst h → (xs : List ℕ) → map (log_act (h ++ g)) (acts_at h xs) ≡ map (log_act h) (acts_at h xs)
same-acts h g causes [] = refl
same-acts h g causes (k ∷ xs) = by (note_at h k) refl (same-acts h g causes xs)
  where
    by : (o : Option Note) → note_at h k ≡ o → map (log_act (h ++ g)) (acts_at h xs) ≡ map (log_act h) (acts_at h xs)
        → map (log_act (h ++ g)) (cons_option (act_of o) (acts_at h xs)) ≡ map (log_act h) (cons_option (act_of o) (acts_at h xs))
    by None e rest = rest
    by (Some (notes.Cut p keep)) e rest = rest
    by (Some (notes.Act a)) e rest =
        ap (λ x. x ∷ map (log_act (h ++ g)) (acts_at h xs)) (log_act-old h g a (cause-within h causes k a e))
        ∙ ap (λ l. log_act h a ∷ l) rest

-- ---- a log has as many acts as numbers

are-acts : (h : List Note) (p : NodeId) (n : ℕ) → Contains (log h p) n → IsAct h n
are-acts h p n c = let own = log-own h p n c in (own.act, own.is_act)

acts_at-long : (h : List Note) (xs : List ℕ) → ((n : ℕ) → Contains xs n → IsAct h n) → length (acts_at h xs) ≡ length xs
acts_at-long h [] acts = refl
acts_at-long h (k ∷ xs) acts =
    let a = acts k (Contains-here k xs) in
    ap (λ o. length (cons_option (act_of o) (acts_at h xs))) a.1 ∙ ap suc (acts_at-long h xs (λ n c. acts n (Contains-there k xs n c)))

pub log-long : (h : List Note) (p : NodeId) → length (acts_in_log h p) ≡ length (log h p)
log-long h p = acts_at-long h (log h p) (are-acts h p)

pub acts-long : (h : List Note) (p : NodeId) → length (log_acts h p) ≡ length (acts_in_log h p)
acts-long h p = length-map (acts_in_log h p) (log_act h)

acts_at-drop : (h : List Note) (k : ℕ) (xs : List ℕ) → ((n : ℕ) → Contains xs n → IsAct h n) → acts_at h (drop k xs) ≡ drop k (acts_at h xs)
acts_at-drop h zero xs acts = refl
acts_at-drop h (suc k) [] acts = refl
acts_at-drop h (suc k) (x ∷ xs) acts =
    let a = acts x (Contains-here x xs) in
    acts_at-drop h k xs (λ n c. acts n (Contains-there x xs n c))
    ∙ ap (λ o. drop (suc k) (cons_option (act_of o) (acts_at h xs))) (sym a.1)

map-drop : {A B : Type 0} → (f : A → B) (k : ℕ) (xs : List A) → map f (drop k xs) ≡ drop k (map f xs)
map-drop f zero xs = refl
map-drop f (suc k) [] = refl
map-drop f (suc k) (x ∷ xs) = map-drop f k xs

-- the acts behind the first numbers
pub acts_behind : (h : List Note) (p : NodeId) (k : ℕ) → map (log_act h) (acts_at h (drop k (log h p))) ≡ drop k (log_acts h p)
acts_behind h p k = ap (map (log_act h)) (acts_at-drop h k (log h p) (are-acts h p)) ∙ map-drop (log_act h) k (acts_in_log h p)

-- ---- as the history grows

-- of what is remembered before and after a note, the first acts are the same
pub front-noted : (h : List Note) (x : Note) → CausesComeFirst h → (q : NodeId) (k : ℕ)
    → k ≤ length (acts_in_log h q) → k ≤ length (acts_in_log (h ++ x ∷ []) q)
    → take k (log_acts (h ++ x ∷ []) q) ≡ take k (log_acts h q)
front-noted h note causes q k low high =
    take-map (log_act (h ++ note ∷ [])) k (acts_in_log (h ++ note ∷ []) q)
    ∙ ap (map (log_act (h ++ note ∷ []))) (front note high)
    ∙ sym (take-map (log_act (h ++ note ∷ [])) k (acts_in_log h q))
    ∙ ap (take k) (same-acts h (note ∷ []) causes (log h q))
  where
    front : (x : Note) → k ≤ length (acts_in_log (h ++ x ∷ []) q) → take k (acts_in_log (h ++ x ∷ []) q) ≡ take k (acts_in_log h q)
    front (notes.Act a) high = elim (cases_Bool (same_node a.node q)) [
      | inl own ↦
          let Own : NodeId → Type 0 = λ r. acts_in_log (h ++ notes.Act a ∷ []) r ≡ acts_in_log h r ++ a ∷ [] in
          let grown : Own q = subst Own (same_node-true a.node q own) (acts_in_log-own_act h a) in
          ap (take k) grown ∙ take-append-le k (acts_in_log h q) (a ∷ []) low
      | inr other ↦ ap (take k) (acts_in_log-other_act h a q other)
    ]
    front (notes.Cut r keep) high = elim (cases_Bool (same_node r q)) [
      | inl own ↦
          let Own : NodeId → Type 0 = λ t. acts_in_log (h ++ notes.Cut r keep ∷ []) t ≡ take keep (acts_in_log h t) in
          let cut : Own q = subst Own (same_node-true r q own) (acts_in_log-own_cut h r keep) in
          let within : k ≤ length (take keep (acts_in_log h q)) = subst (λ (l : List Act). k ≤ length l) cut high in
          ap (take k) cut ∙ kept k keep (acts_in_log h q) within
      | inr other ↦ ap (take k) (acts_in_log-other_cut h r keep q other)
    ]
      where
        kept : (k keep : ℕ) (xs : List Act) → k ≤ length (take keep xs) → take k (take keep xs) ≡ take k xs
        kept zero keep xs le = refl
        kept (suc k) zero xs le = absurd (omega (arith, le))
        kept (suc k) (suc keep) [] le = refl
        kept (suc k) (suc keep) (x ∷ xs) le = ap (λ l. x ∷ l) (kept k keep xs (omega (arith, le)))

pub take-whole : {X : Type 0} (xs : List X) → take (length xs) xs ≡ xs
take-whole [] = refl
take-whole (x ∷ xs) = ap (λ l. x ∷ l) (take-whole xs)
