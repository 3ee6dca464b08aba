-- What fits node by node fits as a whole: of nodes of which the store holds nothing there are no acts.
-- Cited by other crates.
use Rattle.std.proofs.Common.{◌≡◌, ◌≢◌, ◌⊎◌, ℕ, zero, suc, ◌+◌, ◌≤◌, ◌<◌, Bool, true, false, List, [], ◌∷◌, ◌++◌, length, slice_get, Contains, cond, Option}
use Rattle.std.proofs.Common.{None, Some, inl, inr, refl, sym, ap, ◌∙◌, subst, arith}
use Rattle.std.proofs.Common.{length-append}
use Rattle.std.specs.Prelude.{IfSome, IsTrue, is_some}
use Rattle.std.specs.List.{find, list_all}
use Rattle.std.specs.Option.{option_map}
use Rattle.std.proofs.lemmas.Bool.{cases_eq, ne_eqb}
use Rattle.kt_tuple.specs.declared.node.NodeId.{NodeId}
use Rattle.kt_tuple.specs.declared.node.NodeId.TheVariants as ids
use Rattle.kt_tuple.specs.Node.{node_eq, node_index, node_eq_decides}
use Rattle.kt_tuple.proofs.Shared.{node_index-injective}
use Rattle.kt_history.specs.declared.note.Act.{Act}
use Rattle.kt_history.specs.declared.note.Note.{Note}
use Rattle.kt_history.specs.declared.note.Note.TheVariants as notes
use Rattle.kt_history.specs.Log.{log}
use Rattle.kt_history.specs.Closed.{acts_in_log}
use Rattle.kt_history.proofs.Shared.{Contains-none, log-empty, log-own_act, log-other_act, Contains-here, Contains-there}
use Rattle.kt_store.specs.declared.rows.NodeRow.{NodeRow}
use Rattle.kt_store.specs.Content.{Content, opening_row, row_of, row_or}
use Rattle.kt_logs.specs.Legal.{IsLog}
use Rattle.kt_ckpt.specs.declared.acts.LogAct.{LogAct}
use Rattle.kt_ckpt.specs.Acts.{is_act_of}
use Rattle.kt_ckpt.specs.Header.{header_of}
use Rattle.kt_state.specs.Labels.{no_label, up_to}
use Rattle.kt_state.specs.Node.{node_number}
use Rattle.kt_state.specs.Stored.{sent_in, received_in}
use Rattle.kt_model.specs.Asks.{setting_of}
use Rattle.kt_scenario.specs.Scene.{SceneModel, is_node, are_neighbours}
use Rattle.kt_model.specs.Cut.{permanent_by, permanent_of, permanent_length}
use Rattle.kt_model.specs.Effect.{noted}
use Rattle.kt_model.specs.Like.{HoldsFront, acts_stored}
use Rattle.kt_model.specs.Placing.{Acts, number_of, act_by, note_of, next_of, or_else, next_note, placed}
use Rattle.kt_model.specs.Resumed.{nodes_of, all_held, acts_of, history_of, IsOf, FitsIn, IsHeld, IsFit, AreFit, AllFit, MakesSense}
use Rattle.kt_model.specs.State.{role_of}
use Rattle.kt_model.proofs.OpenedSound.{nothing_stored}
use Rattle.kt_model.proofs.Fit.{log-others}
use Rattle.kt_model.proofs.Sums.{few-together}

-- ---- of no node are more acts placed than it has

slice-within : {A : Type 0} (xs : List A) (k : ℕ) (x : A) → slice_get xs k ≡ Some x → k < length xs
slice-within [] k x e = absurd (cc (e))
slice-within (y ∷ xs) zero x e = omega arith
slice-within (y ∷ xs) (suc k) x e = let h = slice-within xs k x e in omega (arith, h)

-- a note that is placed next is an act of a node that has more
abbrev IsNext : Acts → List Note → Option Note → Type 0
IsNext acts h None = Unit {0}
IsNext acts h (Some (notes.Act a)) = length (log h a.node) < length (acts a.node)
IsNext acts h (Some (notes.Cut p keep)) = ⊥

note-next : (acts : Acts) (h : List Note) (p : NodeId) → IsNext acts h (next_of acts h p)
note-next acts h p = by (slice_get (acts p) (length (log h p))) refl where
  by : (o : Option LogAct) → slice_get (acts p) (length (log h p)) ≡ o → IsNext acts h (note_of h p o)
  by None e = tt
  by (Some a) e = pick (number_of h a.by) where
    pick : (o : Option ℕ) → IsNext acts h (option_map (act_by p a) o)
    pick None = tt
    pick (Some n) = slice-within (acts p) (length (log h p)) a e

either-next : (acts : Acts) (h : List Note) (x y : Option Note) → IsNext acts h x → IsNext acts h y → IsNext acts h (or_else x y)
either-next acts h None y is other = other
either-next acts h (Some x) y is other = is

next-next : (acts : Acts) (h : List Note) (nodes : List NodeId) → IsNext acts h (next_note acts h nodes)
unfolding next_note
next-next acts h [] = tt
next-next acts h (p ∷ later) = either-next acts h (next_of acts h p) (next_note acts h later) (note-next acts h p) (next-next acts h later)

abbrev FewPlaced : Acts → List Note → Type 0
FewPlaced acts h = (p : NodeId) → length (log h p) ≤ length (acts p)

noted-few : (acts : Acts) (h : List Note) (note : Option Note) → IsNext acts h note → FewPlaced acts h → FewPlaced acts (noted h note)
noted-few acts h None is few = λ q. few q
noted-few acts h (Some (notes.Cut p keep)) is few = absurd is
noted-few acts h (Some (notes.Act a)) is few = λ p. elim (cases_eq (node_index a.node) (node_index p)) [
  | inl e ↦
      let same : a.node ≡ p = node_index-injective a.node p e in
      let P : NodeId → Type 0 = λ q. length (log (h ++ notes.Act a ∷ []) q) ≤ length (acts q) in
      let own = ap (λ (l : List ℕ). length l) (log-own_act h a) in
      let one = length-append (log h a.node) (suc (length h) ∷ []) in
      subst P same (omega (arith, is, own, one))
  | inr d ↦
      let same : log (h ++ notes.Act a ∷ []) p ≡ log h p = log-other_act h a p (ne_eqb (node_index a.node) (node_index p) d) in
      subst (λ (l : List ℕ). length l ≤ length (acts p)) (sym same) (few p)
]

placed-few : (acts : Acts) (nodes : List NodeId) (n : ℕ) (h : List Note) → FewPlaced acts h → FewPlaced acts (placed acts nodes n h)
unfolding placed
placed-few acts nodes zero h few = few
placed-few acts nodes (suc n) h few =
    placed-few acts nodes n (noted h (next_note acts h nodes)) (noted-few acts h (next_note acts h nodes) (next-next acts h nodes) few)

history-few : (scene : SceneModel) (c : Content) → FewPlaced (acts_of c) (history_of scene c)
history-few scene c = placed-few (acts_of c) (nodes_of scene) (all_held c (nodes_of scene)) []
    (λ p. let e = ap (λ (l : List ℕ). length l) (log-empty p) in omega (arith, e))

-- ---- nodes of which nothing is held

find-held : (p : NodeId) (rows : List NodeRow) (row : NodeRow) → find (λ (r : NodeRow). node_eq r.node p) rows ≡ Some row
    → Contains rows row × (row.node ≡ p)
find-held p [] row e = absurd (cc (e))
find-held p (x ∷ rows) row e = by (node_eq x.node p) refl e (find-held p rows row) where
  by : (b : Bool) → node_eq x.node p ≡ b → cond b (Some x) (find (λ (r : NodeRow). node_eq r.node p) rows) ≡ Some row
      → (find (λ (r : NodeRow). node_eq r.node p) rows ≡ Some row → Contains rows row × (row.node ≡ p))
      → Contains (x ∷ rows) row × (row.node ≡ p)
  by true is e later =
      let same : x ≡ row = cc (e) in
      (subst (Contains (x ∷ rows)) same (Contains-here x rows), ap (λ (r : NodeRow). r.node) (sym same) ∙ (node_eq_decides x.node p).0 is)
  by false is e later = let c = later e in (Contains-there x rows row c.0, c.1)

-- the store holds something of the node, or its row is that of the beginning
held-or : (c : Content) (p : NodeId) → IsHeld c p ⊎ (row_of c p ≡ opening_row p)
held-or c p = by (find (λ (r : NodeRow). node_eq r.node p) c.nodes) refl where
  by : (o : Option NodeRow) → find (λ (r : NodeRow). node_eq r.node p) c.nodes ≡ o → IsHeld c p ⊎ (row_of c p ≡ opening_row p)
  by None e = inr (ap (row_or p) e)
  by (Some row) e = let x = find-held p c.nodes row e in inl (row, x.0, x.1)

nothing-of : (c : Content) (p : NodeId) → row_of c p ≡ opening_row p → permanent_of c p ≡ None
nothing-of c p e = ap (λ (r : NodeRow). permanent_by (Rattle.kt_store.specs.Content.verdict_on c r.tentative) r.tentative r.permanent) e

no-log : (xs : List ℕ) → length xs ≤ 0 → xs ≡ []
no-log [] le = refl
no-log (x ∷ xs) le = absurd (omega (arith, le))

others-fit : (scene : SceneModel) (c : Content) (p : NodeId) → row_of c p ≡ opening_row p → FitsIn scene c (history_of scene c) p
others-fit scene c p e = record {
  of = subst (λ o. IfSome o (IsOf scene p)) (sym none) tt;
  whole = ap (λ o. length (acts_stored o)) none ∙ sym held;
  shaped = ap (λ o. list_all (is_act_of p) (acts_stored o)) none;
  placed = ap (λ (l : List ℕ). length l) bare ∙ sym held;
  sense = λ n a on is. absurd (Contains-none n (subst (λ (l : List ℕ). Contains l n) bare on));
  allowed = subst (IsLog (setting_of scene) p) (sym acts-none) (empty p);
  leads = subst (λ o. HoldsFront scene p (acts_in_log h p) o) (sym none) (subst (λ l. HoldsFront scene p l None) (sym acts-none) (nothing_stored scene p));
} where
  h : List Note
  h = history_of scene c

  none : permanent_of c p ≡ None
  none = nothing-of c p e

  held : permanent_length c p ≡ 0
  held = ap Rattle.kt_model.specs.Cut.acts_held none

  bare : log h p ≡ []
  bare = no-log (log h p) (let few = history-few scene c p in let many = ap (λ o. length (acts_stored o)) none in omega (arith, few, many))

  acts-none : acts_in_log h p ≡ []
  acts-none = ap (Rattle.kt_history.specs.Closed.acts_at h) bare

  empty : (q : NodeId) → IsLog (setting_of scene) q []
  empty (ids.Worker n) = tt
  empty (ids.Shard n) = tt

pub are-all : (scene : SceneModel) (c : Content) → AreFit scene c → AllFit scene c
are-all scene c fit = record {
  short = few-together scene c (λ p. elim (held-or c p) [
    | inl x ↦ inr (fit p x).short
    | inr e ↦ inl (ap Rattle.kt_model.specs.Cut.acts_held (nothing-of c p e))
  ]);
  fits = λ p. elim (held-or c p) [ inl x ↦ (fit p x).fits | inr e ↦ others-fit scene c p e ];
  agree = λ p q near. elim (held-or c p) [
    | inl x ↦ (fit p x).agree q near
    | inr e ↦ subst (λ o. IsTrue (up_to (received_in (option_map header_of o) (node_number q)) (Rattle.kt_model.specs.Resumed.sent_to c q p)))
        (sym (nothing-of c p e))
        (least (Rattle.kt_model.specs.Resumed.sent_to c q p))
  ];
  lives = λ p q near. elim (held-or c p) [
    | inl x ↦ (fit p x).lives q near
    | inr e ↦ subst (λ o. (sent_in (option_map header_of o) (node_number q)).incarnation ≤ (row_of c p).incarnation) (sym (nothing-of c p e)) (omega arith)
  ];
  instance_row = λ p. elim (held-or c p) [
    | inl x ↦ (fit p x).instance_row
    | inr e ↦ subst (λ (r : NodeRow). IfSome r.tentative (λ t. IsTrue (is_some (Rattle.kt_store.specs.Content.instance_row c t.instance)))) (sym e) tt
  ];
  rows = λ row among. (fit row.node (row, among, refl)).there;
  others = λ p out. elim (held-or c p) [
    | inl x ↦ absurd (apart (sym (fit p x).there ∙ out))
    | inr e ↦ e
  ];
} where
  apart : true ≡ false → ⊥
  apart e = cc (e)

  least : (l : Rattle.kt_link.specs.declared.label.Label.Label) → IsTrue (up_to no_label l)
  least l = elim (cases_eq l.incarnation 0) [
    | inl e ↦ let z : l.incarnation ≡ 0 = e in grind (arith, z)
    | inr d ↦ grind (arith, d)
  ]
