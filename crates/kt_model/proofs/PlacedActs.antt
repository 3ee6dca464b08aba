-- What is placed of each node are the first of the acts that its permanent checkpoint holds, each as it is held there.
-- Cited by AllPlaced, NeverUnfit, Resuming; other crates.
use Rattle.std.proofs.Common.{◌≡◌, ◌≢◌, ℕ, zero, suc, ◌+◌, ◌≤◌, List, [], ◌∷◌, ◌++◌, length, map, take, slice_get, Option, None, Some, inl, inr, refl, sym, ap}
use Rattle.std.proofs.Common.{◌∙◌, subst, arith}
use Rattle.std.proofs.Common.{length-append}
use Rattle.std.specs.Option.{option_map}
use Rattle.std.proofs.lemmas.Bool.{cases_Bool}
use Rattle.std.proofs.lemmas.List.{length-map, map-append, take-append-le, take_more}
use Rattle.std.proofs.lemmas.Option.{get_or_from_slice_get, slice_get_within}
use Rattle.kt_tuple.specs.declared.node.NodeId.{NodeId}
use Rattle.kt_history.specs.declared.note.Act.{Act}
use Rattle.kt_history.specs.declared.note.Note.{Note}
use Rattle.kt_history.specs.declared.note.Note.TheVariants as notes
use Rattle.kt_history.specs.Log.{note_at, log, same_node, IsAct}
use Rattle.kt_history.specs.Place.{place}
use Rattle.kt_history.specs.Closed.{act_of, acts_at, acts_in_log}
use Rattle.kt_history.specs.WellFormed.{CausesComeFirst}
use Rattle.kt_history.proofs.Shared.{CausesComeFirst-empty, Contains-from_slice_get, acts_in_log-other_act, acts_in_log-own_act, log-empty, log-other_act}
use Rattle.kt_history.proofs.Shared.{log-own, log-own_act, note_at-old, note_at-within, place-old, place-stands, same_node-true}
use Rattle.kt_ckpt.specs.declared.acts.LogAct.{LogAct}
use Rattle.kt_ckpt.specs.LogActs.{log_act, log_acts, node_placed, placed as named}
use Rattle.kt_ckpt.proofs.Shared.{acts-long, front-noted, log-long, take-whole}
use Rattle.kt_store.specs.Content.{Content}
use Rattle.kt_scenario.specs.Scene.{SceneModel}
use Rattle.kt_model.specs.Effect.{noted}
use Rattle.kt_model.specs.Placing.{Acts, number_in, number_of, act_by, note_of, next_of, or_else, next_note, placed}
use Rattle.kt_model.specs.Resumed.{nodes_of, all_held, acts_of, history_of, FitsIn}
use Rattle.kt_model.proofs.Growing.{noted-causes}

-- the history's logs are the first of these acts
pub record HoldFirst (acts : Acts) (h : List Note) : Type 0 where
  pub causes : CausesComeFirst h
  pub first : (p : NodeId) → log_acts h p ≡ take (length (log h p)) (acts p)

-- ---- the name of a placed act

-- a number that was found has this name, and is of an act that is there, or none
record IsNamed (h : List Note) (by : Option (NodeId × ℕ)) (n : ℕ) : Type 0 where
  is : named h n ≡ by
  within : n ≤ length h
  may : n ≢ 0 → IsAct h n

is-named : (h : List Note) (by : Option (NodeId × ℕ)) (n : ℕ) → number_of h by ≡ Some n → IsNamed h by n
is-named h None n e =
    let zero_is : 0 ≡ n = cc (e) in
    subst (IsNamed h None) zero_is (record { is = refl; within = omega arith; may = λ d. absurd (d refl) })
is-named h (Some by) n e = at by.1 refl e where
  at : (k : ℕ) → by.1 ≡ k → number_in (log h by.0) k ≡ Some n → IsNamed h (Some by) n
  at zero same e = absurd (cc (e))
  at (suc i) same e =
      let own = log-own h by.0 n (Contains-from_slice_get (log h by.0) i n e) in
      let name : named h n ≡ Some (own.act.node, suc i) =
      ap (λ o. node_placed (act_of o) (place h n)) own.is_act ∙ ap (node_placed (Some own.act)) (place-stands h by.0 i n e) in
      record {
        is = name ∙ ap (λ q. Some (q, suc i)) own.own ∙ ap (λ k. Some (by.0, k)) (sym same);
        within = (note_at-within h n (notes.Act own.act) own.is_act).1;
        may = λ d. (own.act, own.is_act);
      }

-- ---- the next act

-- the note is the next act of its node
pub record IsNextAct (acts : Acts) (h : List Note) (a : Act) : Type 0 where
  pub fact : LogAct
  pub at : slice_get (acts a.node) (length (log h a.node)) ≡ Some fact
  pub same : log_act h a ≡ fact
  pub within : a.by ≤ length h
  pub may : a.by ≢ 0 → IsAct h a.by

abbrev pub IsNextNote : Acts → List Note → Option Note → Type 0
IsNextNote acts h None = Unit {0}
IsNextNote acts h (Some (notes.Act a)) = IsNextAct acts h a
IsNextNote acts h (Some (notes.Cut p keep)) = ⊥

note-next : (acts : Acts) (h : List Note) (p : NodeId) → IsNextNote acts h (next_of acts h p)
note-next acts h p = by (slice_get (acts p) (length (log h p))) refl where
  by : (o : Option LogAct) → slice_get (acts p) (length (log h p)) ≡ o → IsNextNote acts h (note_of h p o)
  by None e = tt
  by (Some x) e = pick (number_of h x.by) refl where
    pick : (o : Option ℕ) → number_of h x.by ≡ o → IsNextNote acts h (option_map (act_by p x) o)
    pick None f = tt
    pick (Some n) f =
        let name = is-named h x.by n f in record {
          fact = x;
          at = e;
          same = ap (λ (by : Option (NodeId × ℕ)). let y : LogAct = record { by = by; worker = x.worker; number = x.number; op = x.op; what = x.what } in y)
              name.is;
          within = name.within;
          may = name.may;
        }

either-next : (acts : Acts) (h : List Note) (x y : Option Note) → IsNextNote acts h x → IsNextNote acts h y → IsNextNote acts h (or_else x y)
either-next acts h None y is other = other
either-next acts h (Some x) y is other = is

pub next-next : (acts : Acts) (h : List Note) (nodes : List NodeId) → IsNextNote acts h (next_note acts h nodes)
unfolding next_note
next-next acts h [] = tt
next-next acts h (p ∷ later) = either-next acts h (next_of acts h p) (next_note acts h later) (note-next acts h p) (next-next acts h later)

-- ---- a history with it

-- an act whose cause is there keeps its cause's name
act-old : (h g : List Note) (a : Act) → a.by ≤ length h → log_act (h ++ g) a ≡ log_act h a
act-old h g a le =
    ap (λ (by : Option (NodeId × ℕ)). let x : LogAct = record { by = by; worker = a.worker; number = a.number; op = a.op; what = a.what } in x)
    (ap (λ o. node_placed (act_of o) (place (h ++ g) a.by)) (note_at-old h g a.by le)
    ∙ ap (node_placed (act_of (note_at h a.by))) (place-old h g a.by le))

many : (h : List Note) (p : NodeId) → length (log_acts h p) ≡ length (log h p)
many h p = acts-long h p ∙ log-long h p

-- all of a log that is as long as before
same-log : (h : List Note) (x : Note) → CausesComeFirst h → (q : NodeId) → acts_in_log (h ++ x ∷ []) q ≡ acts_in_log h q
    → log_acts (h ++ x ∷ []) q ≡ log_acts h q
same-log h x causes q same =
    let g = h ++ x ∷ [] in
    let k = length (acts_in_log h q) in
    let now : length (log_acts g q) ≡ k = acts-long g q ∙ ap (λ (l : List Act). length l) same in
    let was : length (log_acts h q) ≡ k = acts-long h q in
    let more : length (acts_in_log h q) ≡ length (acts_in_log g q) = ap (λ (l : List Act). length l) (sym same) in
    sym (take-whole (log_acts g q)) ∙ ap (λ n. take n (log_acts g q)) now
    ∙ front-noted h x causes q k (omega arith) (omega (arith, more))
    ∙ ap (λ n. take n (log_acts h q)) (sym was) ∙ take-whole (log_acts h q)

-- a log with an act more
more-log : (h : List Note) (a : Act) → CausesComeFirst h → log_acts (h ++ notes.Act a ∷ []) a.node ≡ log_acts h a.node ++ log_act (h ++ notes.Act a ∷ []) a ∷ []
more-log h a causes =
    let g = h ++ notes.Act a ∷ [] in
    let old : List LogAct = map (log_act g) (acts_in_log h a.node) in
    let k = length (acts_in_log h a.node) in
    let grown : log_acts g a.node ≡ old ++ log_act g a ∷ [] =
    ap (map (log_act g)) (acts_in_log-own_act h a) ∙ map-append (log_act g) (acts_in_log h a.node) (a ∷ []) in
    let long : length old ≡ k = length-map (acts_in_log h a.node) (log_act g) in
    let was : length (log_acts h a.node) ≡ k = acts-long h a.node in
    let more = ap (λ (l : List Act). length l) (acts_in_log-own_act h a) in
    let one = length-append (acts_in_log h a.node) (a ∷ []) in
    let front : old ≡ log_acts h a.node =
    sym (take-whole old) ∙ ap (λ n. take n old) long ∙ sym (take-append-le k old (log_act g a ∷ []) (omega (arith, long)))
    ∙ ap (take k) (sym grown) ∙ front-noted h (notes.Act a) causes a.node k (omega arith) (omega (arith, more, one))
    ∙ ap (λ n. take n (log_acts h a.node)) (sym was) ∙ take-whole (log_acts h a.node) in
    grown ∙ ap (λ l. l ++ log_act g a ∷ []) front

act-first : (acts : Acts) (h : List Note) (a : Act) → IsNextAct acts h a → HoldFirst acts h → (p : NodeId)
    → log_acts (h ++ notes.Act a ∷ []) p ≡ take (length (log (h ++ notes.Act a ∷ []) p)) (acts p)
act-first acts h a is held p = elim (cases_Bool (same_node a.node p)) [
  | inl e ↦
      let Own : NodeId → Type 0 = λ q. log_acts (h ++ notes.Act a ∷ []) q ≡ take (length (log (h ++ notes.Act a ∷ []) q)) (acts q) in
      subst Own (same_node-true a.node p e) own
  | inr e ↦
      same-log h (notes.Act a) held.causes p (acts_in_log-other_act h a p e) ∙ held.first p
      ∙ ap (λ (l : List ℕ). take (length l) (acts p)) (sym (log-other_act h a p e))
] where
  own : log_acts (h ++ notes.Act a ∷ []) a.node ≡ take (length (log (h ++ notes.Act a ∷ []) a.node)) (acts a.node)
  own =
      let k = length (log h a.node) in
      let within = slice_get_within (acts a.node) k is.fact is.at in
      let long : length (log (h ++ notes.Act a ∷ []) a.node) ≡ k + 1 =
      ap (λ (l : List ℕ). length l) (log-own_act h a) ∙ length-append (log h a.node) (suc (length h) ∷ []) in
      let new : log_act (h ++ notes.Act a ∷ []) a ≡ is.fact = act-old h (notes.Act a ∷ []) a is.within ∙ is.same in
      more-log h a held.causes
      ∙ ap (λ (l : List LogAct). l ++ log_act (h ++ notes.Act a ∷ []) a ∷ []) (held.first a.node)
      ∙ ap (λ (x : LogAct). take k (acts a.node) ++ x ∷ []) (new ∙ sym (get_or_from_slice_get (acts a.node) k is.fact is.fact is.at))
      ∙ sym (take_more (acts a.node) k is.fact within)
      ∙ ap (λ n. take n (acts a.node)) (sym long)

noted-first : (acts : Acts) (h : List Note) (note : Option Note) → IsNextNote acts h note → HoldFirst acts h → HoldFirst acts (noted h note)
noted-first acts h None is held = held
noted-first acts h (Some (notes.Cut p keep)) is held = absurd is
noted-first acts h (Some (notes.Act a)) is held = record {
  causes = noted-causes h (Some (notes.Act a)) held.causes is.may;
  first = act-first acts h a is held;
}

pub placed-first : (acts : Acts) (nodes : List NodeId) (n : ℕ) (h : List Note) → HoldFirst acts h → HoldFirst acts (placed acts nodes n h)
unfolding placed
placed-first acts nodes zero h held = held
placed-first acts nodes (suc n) h held =
    placed-first acts nodes n (noted h (next_note acts h nodes)) (noted-first acts h (next_note acts h nodes) (next-next acts h nodes) held)

none-first : (acts : Acts) → HoldFirst acts []
none-first acts = record {
  causes = CausesComeFirst-empty;
  first = λ p.
      ap (λ (l : List ℕ). map (log_act []) (acts_at [] l)) (log-empty p) ∙ sym (ap (λ (l : List ℕ). take (length l) (acts p)) (log-empty p));
}

-- ---- the history of a world that is resumed

pub placed-acts : (scene : SceneModel) (c : Content) → HoldFirst (acts_of c) (history_of scene c)
placed-acts scene c = placed-first (acts_of c) (nodes_of scene) (all_held c (nodes_of scene)) [] (none-first (acts_of c))

-- where they are all placed, they are all of the log's
pub all-placed : (scene : SceneModel) (c : Content) (p : NodeId) → FitsIn scene c (history_of scene c) p → log_acts (history_of scene c) p ≡ acts_of c p
all-placed scene c p fit =
    (placed-acts scene c).first p ∙ ap (λ n. take n (acts_of c p)) (fit.placed ∙ sym fit.whole) ∙ take-whole (acts_of c p)
