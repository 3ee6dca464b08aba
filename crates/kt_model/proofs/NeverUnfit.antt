-- What a world leaves in its store fits its scene, whatever steps were made: so it can be resumed.
-- Cited by ResumedServices; other crates.
use Rattle.std.proofs.Common.{◌≡◌, ◌≢◌, ◌⊎◌, ℕ, zero, suc, ◌+◌, ◌<◌, ◌≤◌, ◌^◌, Bool, true, false, List, [], ◌∷◌, length, map, take, filter, slice_get, get_or}
use Rattle.std.proofs.Common.{Contains}
use Rattle.std.proofs.Common.{Option, None, Some, inl, inr, refl, sym, ap, ◌∙◌, subst, arith}
use Rattle.std.specs.Prelude.{IfSome, IsTrue}
use Rattle.std.specs.List.{list_all}
use Rattle.std.proofs.lemmas.Bool.{cases_eq}
use Rattle.std.proofs.lemmas.List.{length-take-le}
use Rattle.std.proofs.lemmas.Option.{slice_get_within, slice_get-get_or}
use Rattle.kt_tuple.specs.declared.node.NodeId.{NodeId}
use Rattle.kt_tuple.specs.Node.{is_before}
use Rattle.kt_history.specs.declared.note.Act.{Act}
use Rattle.kt_history.specs.declared.note.Note.{Note}
use Rattle.kt_history.specs.declared.note.Note.TheVariants as notes
use Rattle.kt_history.specs.Log.{note_at, log, IsAct, before}
use Rattle.kt_history.specs.Past.{InPast, itself, by_cause}
use Rattle.kt_history.specs.Closed.{acts_in_log}
use Rattle.kt_history.specs.WellFormed.{CausesComeFirst, HasNoCut, IsWellFormed}
use Rattle.kt_history.proofs.Lists.{list_all-at, list_all-from}
use Rattle.kt_history.proofs.Shared.{Contains-from_slice_get, Contains-from_take, log-own, log-rises, note_before, slice_get-from_Contains, slice_get-take}
use Rattle.kt_history.proofs.Shared.{slice_get-take_below}
use Rattle.kt_ckpt.specs.declared.acts.LogAct.{LogAct}
use Rattle.kt_ckpt.specs.declared.ckpt.Ckpt.{Ckpt}
use Rattle.kt_ckpt.specs.declared.state.State.{State as Saved}
use Rattle.kt_ckpt.specs.declared.state.State.TheVariants as saved
use Rattle.kt_ckpt.specs.Acts.{is_act_of}
use Rattle.kt_ckpt.specs.LogActs.{log_act, log_acts, placed as named}
use Rattle.kt_ckpt.proofs.Shared.{acts-long, log-long, take-whole}
use Rattle.kt_store.specs.declared.rows.NodeRow.{NodeRow}
use Rattle.kt_store.specs.declared.rows.Tentative.{Tentative}
use Rattle.kt_store.specs.declared.rows.Verdict.{Verdict}
use Rattle.kt_store.specs.declared.rows.Verdict.TheVariants as verdicts
use Rattle.kt_store.specs.Content.{Content, row_of, verdict_on}
use Rattle.kt_state.specs.Labels.{up_to}
use Rattle.kt_state.specs.Node.{Role}
use Rattle.kt_scenario.specs.declared.step.TheConstants.{MAX_NOTES}
use Rattle.kt_model.specs.Asks.{setting_of}
use Rattle.kt_scenario.specs.Scene.{SceneModel, is_node, are_neighbours}
use Rattle.kt_model.specs.Cut.{acts_held, permanent_by, permanent_of, permanent_length, IsCausallyClosed, IsInCut}
use Rattle.kt_model.specs.Placing.{Acts, placed}
use Rattle.kt_model.specs.Reached.{IsReached}
use Rattle.kt_model.specs.Resumed.{nodes_of, all_held, acts_of, history_of, IsOf, PassedAsMany, FitsIn, IsHeld, IsFit, AreFit, heard_from, sent_to}
use Rattle.kt_model.specs.State.{State, role_of}
use Rattle.kt_model.proofs.AllPlaced.{AreOrdered, IsAmong, all-are-placed, sum_over, sums-rise}
use Rattle.kt_model.proofs.AllInstanceRows.{reached-instance_row}
use Rattle.kt_model.proofs.Fit.{IsOfNode, IsRowOf}
use Rattle.kt_model.proofs.FitBodies.{IsNumbered}
use Rattle.kt_model.proofs.Kept.{reached-kept}
use Rattle.kt_model.proofs.Lasting.{one_run-reached, stores-reached, within-reached}
use Rattle.kt_model.proofs.OwnRows.{reached-own}
use Rattle.kt_model.proofs.Placed.{placed-no_cut}
use Rattle.kt_model.proofs.PlacedActs.{placed-acts}
use Rattle.kt_model.proofs.Renumbered.{IsFrontOf, IsAt, name-at, act-at, slice-map, new-front, new-legal, new-sense}
use Rattle.kt_model.proofs.Scene.{role-id}
use Rattle.kt_model.proofs.Settle.{permanent-settled, settled}
use Rattle.kt_model.proofs.Shaped.{AreMade, IsMadeBy, acts-shaped}
use Rattle.kt_model.proofs.Together.{among-nodes, logs-together, scene-rises, some-of}

-- ---- the permanent checkpoint is of its node

passed-numbered : (x : Saved) → IsNumbered x → PassedAsMany x
passed-numbered (saved.Worker w) is = is
passed-numbered (saved.Shard y) is = tt

-- what counts as permanent is one of the two that are stored
permanent-is : (P : Ckpt → Type 0) (v : Option Verdict) (t : Option Tentative) (perm : Option Ckpt) → IfSome perm P → IfSome t (λ x. P x.checkpoint)
    → IfSome (permanent_by v t perm) P
permanent-is P None t perm is tent = is
permanent-is P (Some verdicts.Open) t perm is tent = is
permanent-is P (Some verdicts.No) t perm is tent = is
permanent-is P (Some verdicts.Yes) None perm is tent = is
permanent-is P (Some verdicts.Yes) (Some t) perm is tent = tent

of-node : (scene : SceneModel) (p : NodeId) (o : Option Ckpt) → IfSome o (IsOfNode (role_of scene p)) → IfSome o (IsOf scene p)
of-node scene p None is = tt
of-node scene p (Some c) is = record {
  own = is.own ∙ role-id scene p;
  sent = is.sent;
  received = is.received;
  passed = passed-numbered c.state is.numbered;
}

module _ (s : State) (is : IsReached s) (closed : IsCausallyClosed s.history (permanent_length s.content)) where
  formed : IsWellFormed s.history
  formed = (one_run-reached s is).well_formed

  causes : CausesComeFirst s.history
  causes = (reached-kept s is).ready.causes

  long-log : (p : NodeId) → length (log_acts s.history p) ≡ length (log s.history p)
  long-log p = acts-long s.history p ∙ log-long s.history p

  acts-are : (p : NodeId) → acts_of s.content p ≡ take (permanent_length s.content p) (log_acts s.history p)
  acts-are p = (stores-reached s is p).counted_acts

  as-many : (p : NodeId) → length (acts_of s.content p) ≡ permanent_length s.content p
  as-many p =
      let within = within-reached s is p in
      let same = long-log p in
      ap (λ (l : List LogAct). length l) (acts-are p) ∙ length-take-le (permanent_length s.content p) (log_acts s.history p) (omega (arith, within, same))

  -- ---- with each act its cause

  closed-front : (p : NodeId) (i n : ℕ) (a : Act) → i < permanent_length s.content p → IsAt s.history p i n → note_at s.history n ≡ Some (notes.Act a)
      → a.by ≢ 0
      → (q : NodeId) × (k : ℕ) × (k < permanent_length s.content q) × IsAt s.history q k a.by
  closed-front p i n a lt at is_a some =
      let among : Contains (take (permanent_length s.content p) (log s.history p)) n =
      Contains-from_slice_get (take (permanent_length s.content p) (log s.history p)) i n
      (slice_get-take_below (permanent_length s.content p) (log s.history p) i lt ∙ at) in
      let past : InPast s.history a.by n = by_cause (record { act = a; is_act = is_a; names = refl; some = some }) itself in
      let cut = closed a.by n past (p, among) in
      let there = slice_get-from_Contains (take (permanent_length s.content cut.0) (log s.history cut.0)) a.by cut.1 in
      let found = slice_get-take (permanent_length s.content cut.0) (log s.history cut.0) there.0 a.by there.1 in
      (cut.0, there.0, found.0, found.1)

  -- ---- so all of them are placed

  abbrev rank : NodeId → ℕ → ℕ
  rank p i = get_or (log s.history p) i 0

  at-rank : (p : NodeId) (i : ℕ) → i < length (acts_of s.content p) → IsAt s.history p i (rank p i)
  at-rank p i lt =
      let within = within-reached s is p in
      let same = as-many p in
      slice_get-get_or (log s.history p) i 0 (omega (arith, lt, within, same))

  rises : (p : NodeId) (i j : ℕ) → i ≤ j → j < length (acts_of s.content p) → rank p i ≤ rank p j
  rises p i j le lt = elim (cases_eq i j) [
    | inl e ↦ subst (λ k. rank p i ≤ rank p k) e (omega arith)
    | inr d ↦
        let below : i < j = grind (arith, le, d) in
        let less = log-rises s.history p i j (rank p i) (rank p j) below (at-rank p i (omega (arith, below, lt))) (at-rank p j lt) in
        omega (arith, less)
  ]

  cause-among : (p : NodeId) (i : ℕ) (x : LogAct) → slice_get (acts_of s.content p) i ≡ Some x → IsAmong (acts_of s.content) rank (rank p i) x.by
  cause-among p i x at =
      subst (λ (y : LogAct). IsAmong (acts_of s.content) rank (rank p i) y.by) same (by own.act.by refl)
    where
      lt : i < length (acts_of s.content p)
      lt = slice_get_within (acts_of s.content p) i x at

      below : i < permanent_length s.content p
      below = let inside = lt in let same = as-many p in omega (arith, inside, same)

      here : IsAt s.history p i (rank p i)
      here = at-rank p i lt

      own : Rattle.kt_history.proofs.Logs.IsOwnAct s.history p (rank p i)
      own = log-own s.history p (rank p i) (Contains-from_slice_get (log s.history p) i (rank p i) here)

      same : log_act s.history own.act ≡ x
      same =
          let old : slice_get (log_acts s.history p) i ≡ Some (log_act s.history own.act) =
          slice-map (log_act s.history) (acts_in_log s.history p) i own.act (act-at s.history p i (rank p i) own.act here own.is_act) in
          let both : Some (log_act s.history own.act) ≡ Some x =
          sym old ∙ sym (slice_get-take_below (permanent_length s.content p) (log_acts s.history p) i below)
          ∙ ap (λ (l : List LogAct). slice_get l i) (sym (acts-are p)) ∙ at in
          cc (both)

      by : (k : ℕ) → own.act.by ≡ k → IsAmong (acts_of s.content) rank (rank p i) (named s.history own.act.by)
      by zero e = subst (λ k. IsAmong (acts_of s.content) rank (rank p i) (named s.history k)) (sym e) tt
      by (suc k) e =
          let some : own.act.by ≢ 0 = λ z. omega (arith, z, e) in
          let at_cause = closed-front p i (rank p i) own.act below here own.is_act some in
          let enough = as-many at_cause.0 in
          let few = at_cause.2 in
          let inside : at_cause.1 < length (acts_of s.content at_cause.0) = omega (arith, few, enough) in
          let is_cause = causes.follows (rank p i) (notes.Act own.act) own.is_act some in
          let earlier = (note_before s.history (rank p i) (notes.Act own.act) own.act.by (notes.Act is_cause.0) own.is_act is_cause.1).0 in
          let ranked : Some (rank at_cause.0 at_cause.1) ≡ Some own.act.by = sym (at-rank at_cause.0 at_cause.1 inside) ∙ at_cause.3 in
          let number : rank at_cause.0 at_cause.1 ≡ own.act.by = cc (ranked) in
          subst (IsAmong (acts_of s.content) rank (rank p i)) (sym (name-at s.history at_cause.0 at_cause.1 own.act.by at_cause.3))
          (at_cause.1, refl, inside, omega (arith, number, earlier))

  -- a node with acts is of the scene
  acts-there : (p : NodeId) → 0 < length (acts_of s.content p) → IsTrue (is_node s.scene p)
  unfolding AreMade
  acts-there p some =
      let here = at-rank p 0 some in
      let own = log-own s.history p (rank p 0) (Contains-from_slice_get (log s.history p) 0 (rank p 0) here) in
      let made : IsMadeBy s.scene own.act = (reached-kept s is).made (rank p 0) own.act own.is_act in
      subst (λ q. IsTrue (is_node s.scene q)) own.own made.there

  ordered : AreOrdered (acts_of s.content) (nodes_of s.scene) rank
  ordered = record { rises = rises; cause = cause-among; there = λ p some. among-nodes s.scene p (acts-there p some) }

  all-placed-here : (p : NodeId) → length (log (history_of s.scene s.content) p) ≡ length (acts_of s.content p)
  all-placed-here p =
      let same : (λ q. length (acts_of s.content q)) ≡ permanent_length s.content = λ i q. as-many q i in
      let sums : sum_over (λ q. length (acts_of s.content q)) (nodes_of s.scene) ≡ all_held s.content (nodes_of s.scene) =
      ap (λ (f : NodeId → ℕ). sum_over f (nodes_of s.scene)) same in
      all-are-placed (acts_of s.content) (nodes_of s.scene) rank ordered (all_held s.content (nodes_of s.scene)) (omega (arith, sums)) p

  pub front : IsFrontOf s.history (history_of s.scene s.content) (permanent_length s.content)
  front = record {
    formed = formed;
    causes = (placed-acts s.scene s.content).causes;
    acts = placed-no_cut (acts_of s.content) (nodes_of s.scene) (all_held s.content (nodes_of s.scene)) []
        (record { none = λ n p keep at. absurd (none-at n p keep at) });
    within = within-reached s is;
    long = λ p. all-placed-here p ∙ as-many p;
    same = λ p.
        (placed-acts s.scene s.content).first p ∙ ap (λ n. take n (acts_of s.content p)) (all-placed-here p) ∙ take-whole (acts_of s.content p) ∙ acts-are p;
    closed = closed-front;
  }
    where
      none-at : (n : ℕ) (p : NodeId) (keep : ℕ) → note_at [] n ≡ Some (notes.Cut p keep) → ⊥
      none-at zero p keep at = cc (at)
      none-at (suc n) p keep at = cc (at)

  -- ---- each node fits

  fits-in : (p : NodeId) → FitsIn s.scene s.content (history_of s.scene s.content) p
  fits-in p = record {
    of = of-node s.scene p (permanent_of s.content p) (subst (λ o. IfSome o (IsOfNode (role_of s.scene p))) (permanent-settled s.found s.content p)
        (permanent-is (IsOfNode (role_of s.scene p)) _ _ _ (rows p).permanent (rows p).tentative));
    whole = as-many p;
    shaped = list_all-from (is_act_of p) (acts_of s.content p) (λ x among.
        list_all-at (is_act_of p) (log_acts s.history p) x
        (acts-shaped s.scene (reached-kept s is).ready.scene s.history formed (reached-kept s is).made p)
        (Contains-from_take (permanent_length s.content p) (log_acts s.history p) x (subst (λ (l : List LogAct). Contains l x) (acts-are p) among)));
    placed = all-placed-here p ∙ as-many p;
    sense = new-sense s.history (history_of s.scene s.content) (permanent_length s.content) front p;
    allowed = new-legal s.history (history_of s.scene s.content) (permanent_length s.content) front (setting_of s.scene) p ((reached-kept s is).sound.legal p);
    leads = new-front s.history (history_of s.scene s.content) (permanent_length s.content) front s.scene p (permanent_of s.content p) refl
        (stores-reached s is p).counts;
  }
    where
      rows : (q : NodeId) → IsRowOf (role_of s.scene q) (row_of (settled s).content q)
      rows = (reached-kept s is).fitting.rows

  short : (p : NodeId) → IsTrue (is_node s.scene p)
      → all_held s.content (filter (λ q. is_before q p) (nodes_of s.scene)) + permanent_length s.content p < 2 ^ 32
  short p there =
      let some = some-of (permanent_length s.content) (λ q. is_before q p) p (Rattle.kt_model.proofs.Sums.not_before_itself p) (nodes_of s.scene)
      (among-nodes s.scene p there) in
      let all = sums-rise (permanent_length s.content) (λ q. length (log s.history q)) (nodes_of s.scene) (within-reached s is) in
      let together = logs-together (nodes_of s.scene) (scene-rises s.scene) s.history in
      let few = (reached-kept s is).ready.few_notes in
      omega (arith, some, all, together, few)

  pub never-unfit : ((p q : NodeId) → IsTrue (are_neighbours s.scene p q) → IsTrue (up_to (heard_from s.content p q) (sent_to s.content q p)))
      → ((p q : NodeId) → IsTrue (are_neighbours s.scene p q) → (sent_to s.content p q).incarnation ≤ (row_of s.content p).incarnation)
      → AreFit s.scene s.content
  never-unfit agree lives p held =
      let there : IsTrue (is_node s.scene p) = subst (λ q. IsTrue (is_node s.scene q)) held.2 (reached-own s is held.0 held.1) in record {
        there = there;
        short = short p there;
        fits = fits-in p;
        agree = agree p;
        lives = lives p;
        instance_row = reached-instance_row s is p;
      }
