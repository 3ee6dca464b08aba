-- A world that goes on from what a store holds that fits: what is stored settled, it is ready, backed, sound and fitting.
-- Cited by Kept; other crates.
use Rattle.std.proofs.Common.{◌≡◌, ℕ, zero, suc, ◌+◌, ◌-◌, ◌*◌, ◌<◌, ◌≤◌, Bool, true, false, if◌then◌else◌, List, [], ◌∷◌, ◌++◌, length, map, Contains, take}
use Rattle.std.proofs.Common.{Option, None, Some, inl, inr, refl, sym, ap, ◌∙◌, subst, arith}
use Rattle.std.proofs.Common.{◌⊎◌, ◌==◌, ◌&&◌, length-append}
use Rattle.std.specs.Prelude.{fold, max, is_some, IfSome, IsTrue, nat_le}
use Rattle.std.specs.List.{cons_option, list_all}
use Rattle.std.proofs.lemmas.Bool.{and_parts, cases_lt, eqb-true, le-leb}
use Rattle.std.proofs.lemmas.List.{get_or_past, get_or_append_left, get_or-append-add}
use Rattle.kt_tuple.specs.declared.node.NodeId.{NodeId}
use Rattle.kt_tuple.specs.declared.node.NodeId.TheVariants as ids
use Rattle.kt_history.specs.declared.note.Act.{Act}
use Rattle.kt_history.specs.declared.note.Note.{Note}
use Rattle.kt_history.specs.declared.note.Note.TheVariants as notes
use Rattle.kt_history.specs.Log.{log, note_at}
use Rattle.kt_history.specs.Closed.{act_of, acts_at, acts_in_log}
use Rattle.kt_history.specs.WellFormed.{HasNoCut, IsWellFormed}
use Rattle.kt_history.proofs.Shared.{CausesComeFirst-from_well_formed, Contains-cons_cases, Contains-none, log-own, note_at-within, Stands-no_cut}
use Rattle.kt_shard.specs.Limits.{sessions}
use Rattle.kt_shard.specs.Table.{at}
use Rattle.kt_ckpt.specs.Acts.{is_about, is_act_of, is_caused, is_done_by}
use Rattle.kt_ckpt.specs.LogActs.{log_act, log_acts, placed}
use Rattle.kt_ckpt.specs.declared.ckpt.Ckpt.{Ckpt}
use Rattle.kt_ckpt.proofs.Shared.{take-whole}
use Rattle.kt_ckpt.specs.declared.state.State.{State as Held}
use Rattle.kt_ckpt.specs.declared.state.State.TheVariants as states
use Rattle.kt_store.specs.declared.rows.NodeRow.{NodeRow}
use Rattle.kt_store.specs.declared.rows.InstanceRow.{InstanceRow}
use Rattle.kt_store.specs.declared.rows.Tentative.{Tentative}
use Rattle.kt_store.specs.declared.rows.Verdict.{Verdict}
use Rattle.kt_store.specs.Proper.{IsProper}
use Rattle.kt_store.specs.Content.{Content, next_instance, opening_row, instance_row, row_of, verdict_of, verdict_on}
use Rattle.kt_store.proofs.Shared.{above_all}
use Rattle.kt_state.specs.Node.{Node, Down, node_number, opening_node}
use Rattle.kt_model.specs.Limits.{rows}
use Rattle.kt_scenario.specs.Scene.{SceneModel, IsScene, is_node}
use Rattle.kt_model.specs.Short.{AreShort}
use Rattle.kt_model.specs.State.{node, link_place, role_of}
use Rattle.kt_model.specs.Cut.{permanent_by, permanent_of, permanent_length, acts_held}
use Rattle.kt_model.specs.Like.{HoldsActs, HoldsFront}
use Rattle.kt_model.specs.Found.{was_found}
use Rattle.kt_model.specs.Resumed.{nodes_of, all_held, acts_of, history_of, down_row, down_rows, resumed, IsOf, PassedAsMany, AllFit}
use Rattle.kt_model.specs.auxiliary.Ready.{IsNodeReady, IsReady}
use Rattle.kt_model.specs.auxiliary.Backed.{IsNodeBacked, IsBacked}
use Rattle.kt_model.proofs.Boards.{found-holds}
use Rattle.kt_model.proofs.Fit.{IsOfNode, IsRowOf, IsFitting, EndsIn}
use Rattle.kt_model.proofs.FitBodies.{IsNumbered}
use Rattle.kt_model.proofs.HeldActs.{AreHeld, RowHeld}
use Rattle.kt_model.proofs.NoteSound.{log-long}
use Rattle.kt_model.proofs.Opened.{at-replicate, length-replicate, no_messages, past-none}
use Rattle.kt_model.proofs.OpenedSound.{nothing_sent}
use Rattle.kt_model.proofs.PlacedActs.{all-placed}
use Rattle.kt_model.proofs.Shaped.{AreMade, IsAboutOwn, IsMadeBy}
use Rattle.kt_model.proofs.Placed.{placed-no_cut, placed-few, sense-well_formed}
use Rattle.kt_model.proofs.Scene.{role-id}
use Rattle.kt_model.proofs.Settle.{settled_by, settled_with, settled_row, settled, settled_content, row-settled}
use Rattle.kt_model.proofs.Sound.{IsNodeLike, AreKept, EndsAs, IsNodeSound, NodeSoundIn, IsSound}

-- ---- rows of nodes that are down

length-down_rows : (scene : SceneModel) (n : ℕ) → length (down_rows scene n) ≡ 2 * n
unfolding down_rows
length-down_rows scene zero = refl
length-down_rows scene (suc n) =
    omega (arith, length-append (down_rows scene n) (down_row scene (ids.Worker n) ∷ down_row scene (ids.Shard n) ∷ []), length-down_rows scene n)

down-worker : (scene : SceneModel) (n k : ℕ) → k < n → at None (down_rows scene n) (2 * k) ≡ down_row scene (ids.Worker k)
unfolding down_rows
down-worker scene zero k below = absurd (omega (arith, below))
down-worker scene (suc n) k below = by (cases_lt k n) (λ less. down-worker scene n k less)
  where
    two : List (Option Node)
    two = down_row scene (ids.Worker n) ∷ down_row scene (ids.Shard n) ∷ []

    long : length (down_rows scene n) ≡ 2 * n
    long = length-down_rows scene n

    by : (k < n) ⊎ (n ≤ k) → (k < n → at None (down_rows scene n) (2 * k) ≡ down_row scene (ids.Worker k))
        → at None (down_rows scene n ++ two) (2 * k) ≡ down_row scene (ids.Worker k)
    by (inl less) before = get_or_append_left (down_rows scene n) two None (2 * k) (omega (arith, less, long)) ∙ before less
    by (inr more) before =
        let same : n ≡ k = omega (arith, below, more) in
        let place : 2 * k ≡ length (down_rows scene n) + 0 = omega (arith, long, same) in
        ap (at None (down_rows scene n ++ two)) place ∙ get_or-append-add (down_rows scene n) two 0 None
        ∙ ap (λ (j : ℕ). down_row scene (ids.Worker j)) same

down-shard : (scene : SceneModel) (n k : ℕ) → k < n → at None (down_rows scene n) (2 * k + 1) ≡ down_row scene (ids.Shard k)
unfolding down_rows
down-shard scene zero k below = absurd (omega (arith, below))
down-shard scene (suc n) k below = by (cases_lt k n) (λ less. down-shard scene n k less)
  where
    two : List (Option Node)
    two = down_row scene (ids.Worker n) ∷ down_row scene (ids.Shard n) ∷ []

    long : length (down_rows scene n) ≡ 2 * n
    long = length-down_rows scene n

    by : (k < n) ⊎ (n ≤ k) → (k < n → at None (down_rows scene n) (2 * k + 1) ≡ down_row scene (ids.Shard k))
        → at None (down_rows scene n ++ two) (2 * k + 1) ≡ down_row scene (ids.Shard k)
    by (inl less) before = get_or_append_left (down_rows scene n) two None (2 * k + 1) (omega (arith, less, long)) ∙ before less
    by (inr more) before =
        let same : n ≡ k = omega (arith, below, more) in
        let place : 2 * k + 1 ≡ length (down_rows scene n) + 1 = omega (arith, long, same) in
        ap (at None (down_rows scene n ++ two)) place ∙ get_or-append-add (down_rows scene n) two 1 None
        ∙ ap (λ (j : ℕ). down_row scene (ids.Shard j)) same

-- a node past the tables is none of the scene's
past-down : (scene : SceneModel) → IsScene scene → (p : NodeId) → sessions ≤ node_number p → down_row scene p ≡ None
past-down scene is p past = by (is_node scene p) (past-none scene is p past)
  where
    by : (b : Bool) → (if b then Some (opening_node (role_of scene p)) else None) ≡ None → (if b then Some Down else None) ≡ None
    by true e = absurd (cc (e))
    by false e = refl

-- the row of each node
pub down-node : (scene : SceneModel) → IsScene scene → (c : Content) (p : NodeId) → node (resumed scene c) p ≡ down_row scene p
down-node scene is c (ids.Worker w) = elim (cases_lt w sessions) [
  | inl below ↦ down-worker scene sessions w below
  | inr past ↦ get_or_past (down_rows scene sessions) (2 * w) None (omega (arith, past, length-down_rows scene sessions))
      ∙ sym (past-down scene is (ids.Worker w) past)
]
down-node scene is c (ids.Shard r) = elim (cases_lt r sessions) [
  | inl below ↦ down-shard scene sessions r below
  | inr past ↦ get_or_past (down_rows scene sessions) (2 * r + 1) None (omega (arith, past, length-down_rows scene sessions))
      ∙ sym (past-down scene is (ids.Shard r) past)
]

-- what holds of no row and of one that is down holds of each row of the world
pub down-rows-hold : (scene : SceneModel) → IsScene scene → (c : Content) (P : NodeId → Option Node → Type 0) → ((p : NodeId) → P p None)
    → ((p : NodeId) → P p (Some Down)) → (p : NodeId) → P p (node (resumed scene c) p)
down-rows-hold scene is c P none down p = subst (P p) (sym (down-node scene is c p)) (by (is_node scene p)) where
  by : (b : Bool) → P p (if b then Some Down else None)
  by true = down p
  by false = none p

-- ---- what is stored, settled

-- every tentative checkpoint was found
all-found : (c : Content) (i : ℕ) → IsTrue (is_some (instance_row c i)) → was_found (Some (next_instance c - 1)) i ≡ true
all-found c i some = by (instance_row c i) refl some where
  most : ℕ
  most = fold max 0 (map (λ (row : InstanceRow). row.instance) c.board)

  by : (o : Option InstanceRow) → instance_row c i ≡ o → IsTrue (is_some o) → nat_le i (next_instance c - 1) ≡ true
  by None e some = absurd (cc (some))
  by (Some row) e some =
      let both = found-holds (λ (x : InstanceRow). x.instance ≤ most) (λ (x : InstanceRow). x.instance == i) c.board row (above_all c.board 0) e in
      let low = both.0 in
      let same = both.1 in
      let le : i ≤ most = grind (arith, low, same) in
      le-leb i (next_instance c - 1) (omega (arith, le))

abbrev pub IsAllSettled : Content → NodeRow → NodeRow → Type 0
IsAllSettled c row new = (new.tentative ≡ None) × (new.permanent ≡ permanent_by (verdict_on c row.tentative) row.tentative row.permanent)
    × (new.incarnation ≡ row.incarnation)

-- so nothing tentative is left, and what counts as permanent is
pub all-settled : (c : Content) (row : NodeRow) → IfSome row.tentative (λ t. IsTrue (is_some (instance_row c t.instance)))
    → IsAllSettled c row (settled_row (Some (next_instance c - 1)) c row)
all-settled c row some = by row.tentative refl some where
  f : Option ℕ
  f = Some (next_instance c - 1)

  none : (v : Option Verdict) (x : Option Ckpt) → x ≡ permanent_by v None x
  none None x = refl
  none (Some Rattle.kt_store.specs.declared.rows.Verdict.TheVariants.Open) x = refl
  none (Some Rattle.kt_store.specs.declared.rows.Verdict.TheVariants.Yes) x = refl
  none (Some Rattle.kt_store.specs.declared.rows.Verdict.TheVariants.No) x = refl

  found : (t : Tentative) → row.tentative ≡ Some t → (b : Bool) → b ≡ true
      → IsAllSettled c row (if b then settled_by (verdict_of c t.instance) t row else row)
  found t e true is = (refl, ap (λ o. permanent_by (verdict_on c o) o row.permanent) (sym e), refl)
  found t e false is = absurd (cc (is))

  by : (o : Option Tentative) → row.tentative ≡ o → IfSome o (λ t. IsTrue (is_some (instance_row c t.instance)))
      → IsAllSettled c row (settled_with (verdict_of c) f o row)
  by None e some = (e, none None row.permanent ∙ ap (λ o. permanent_by (verdict_on c o) o row.permanent) (sym e), refl)
  by (Some t) e some = found t e (was_found f t.instance) (all-found c t.instance some)

pub settled-all : (scene : SceneModel) (c : Content) → AllFit scene c → (p : NodeId)
    → (settled_row (Some (next_instance c - 1)) c (row_of c p)).tentative ≡ None
settled-all scene c fit p = (all-settled c (row_of c p) (fit.instance_row p)).0

-- ---- the history

no_cut : HasNoCut []
no_cut = record { none = λ n p keep e. let within = note_at-within [] n _ e in omega (arith, within) }

pub history-no_cut : (scene : SceneModel) (c : Content) → HasNoCut (history_of scene c)
history-no_cut scene c = placed-no_cut (acts_of c) (nodes_of scene) (all_held c (nodes_of scene)) [] no_cut

pub history-well_formed : (scene : SceneModel) (c : Content) → AllFit scene c → IsWellFormed (history_of scene c)
history-well_formed scene c fit = sense-well_formed (history_of scene c) (history-no_cut scene c) (λ p. (fit.fits p).sense)

-- each act is one that its node does, about requests of its own if the node is a worker
pub resumed-made : (scene : SceneModel) (c : Content) → AllFit scene c → AreMade scene (history_of scene c)
unfolding AreMade
resumed-made scene c fit n a is = by stands.0 stands.1
  where
    h : List Note
    h = history_of scene c

    stands : (p : NodeId) × Contains (log h p) n
    stands = Stands-no_cut h n (history-no_cut scene c) (a, is)

    nothing : (p : NodeId) → row_of c p ≡ opening_row p → permanent_length c p ≡ 0
    nothing p e = ap (λ (r : NodeRow). acts_held (permanent_by (verdict_on c r.tentative) r.tentative r.permanent)) e

    there : (p : NodeId) → Contains (log h p) n → IsTrue (is_node scene p)
    there p on = pick (is_node scene p) refl where
      pick : (b : Bool) → is_node scene p ≡ b → IsTrue b
      pick true e = refl
      pick false e =
          let none = nothing p (fit.others p e) in
          let placed = (fit.fits p).placed in
          let at = on.1 in
          absurd (omega (arith, none, placed, at))

    about : (p : NodeId) (worker : ℕ) → is_about p worker ≡ true → IsAboutOwn p worker
    about (ids.Worker i) worker e = eqb-true worker i e
    about (ids.Shard i) worker e = tt

    by : (p : NodeId) → Contains (log h p) n → IsMadeBy scene a
    by p on =
        let own = log-own h p n on in
        let same : own.act ≡ a = is-act own.act a (sym own.is_act ∙ is) in
        let node : a.node ≡ p = ap (λ (x : Act). x.node) (sym same) ∙ own.own in
        let all : list_all (is_act_of p) (log_acts h p) ≡ true = ap (list_all (is_act_of p)) (all-placed scene c p (fit.fits p)) ∙ (fit.fits p).shaped in
        let one : is_act_of p (log_act h a) ≡ true = shape-at p (log h p) n a on is all in
        let parts = and_parts (is_done_by p a.what) (is_about p a.worker && is_caused p a.worker a.what (placed h a.by)) one in
        let rest = and_parts (is_about p a.worker) (is_caused p a.worker a.what (placed h a.by)) parts.1 in
        record {
          there = subst (λ q. IsTrue (is_node scene q)) (sym node) (there p on);
          done = subst (λ q. is_done_by q a.what ≡ true) (sym node) parts.0;
          about = subst (λ q. IsAboutOwn q a.worker) (sym node) (about p a.worker rest.0);
        }
      where
        is-act : (x y : Act) → Some (notes.Act x) ≡ Some (notes.Act y) → x ≡ y
        is-act x y e = cc (e)

        shape-at : (p : NodeId) (xs : List ℕ) (n : ℕ) (a : Act) → Contains xs n → note_at h n ≡ Some (notes.Act a)
            → list_all (is_act_of p) (map (log_act h) (acts_at h xs)) ≡ true → is_act_of p (log_act h a) ≡ true
        shape-at p [] n a on is all = absurd (Contains-none n on)
        shape-at p (k ∷ xs) n a on is all = elim (Contains-cons_cases k xs n on) [
          | inl e ↦
              let here : note_at h k ≡ Some (notes.Act a) = ap (note_at h) e ∙ is in
              let first = ap (λ o. list_all (is_act_of p) (map (log_act h) (cons_option (act_of o) (acts_at h xs)))) (sym here) ∙ all in
              (and_parts (is_act_of p (log_act h a)) (list_all (is_act_of p) (map (log_act h) (acts_at h xs))) first).0
          | inr later ↦ shape-at p xs n a later is (later-all (note_at h k) all)
        ]
          where
            later-all : (o : Option Note) → list_all (is_act_of p) (map (log_act h) (cons_option (act_of o) (acts_at h xs))) ≡ true
                → list_all (is_act_of p) (map (log_act h) (acts_at h xs)) ≡ true
            later-all None e = e
            later-all (Some (notes.Cut q keep)) e = e
            later-all (Some (notes.Act b)) e = (and_parts (is_act_of p (log_act h b)) (list_all (is_act_of p) (map (log_act h) (acts_at h xs))) e).1

-- what is stored holds all acts of its node
pub resumed-held : (scene : SceneModel) (c : Content) → AllFit scene c → (p : NodeId) → AreHeld (settled (resumed scene c)) p
resumed-held scene c fit p =
    let h : List Note = history_of scene c in
    let all = all-settled c (row_of c p) (fit.instance_row p) in
    let whole : HoldsActs h p (permanent_of c p) =
    sym (take-whole (acts_of c p)) ∙ ap (λ n. take n (acts_of c p)) (fit.fits p).whole
    ∙ ap (take (permanent_length c p)) (sym (all-placed scene c p (fit.fits p))) in
    let P : Option Ckpt → Type 0 = HoldsActs h p in
    let R : NodeRow → Type 0 = λ r. RowHeld h p r (verdict_on (settled (resumed scene c)).content r.tentative) in
    let T : Option Tentative → Type 0 = λ t. IfSome t (λ t. HoldsActs h p (Some t.checkpoint)) in
    let row : R (settled_row (Some (next_instance c - 1)) c (row_of c p)) =
    record { permanent = subst P (sym all.1) whole; tentative = λ fine. subst T (sym all.0) tt } in
    let there : R (row_of (settled (resumed scene c)).content p) = subst R (sym (row-settled (Some (next_instance c - 1)) c p)) row in
    record { permanent = there.permanent; tentative = there.tentative }

-- ---- the world

pub resumed-ready : (scene : SceneModel) → IsScene scene → AreShort scene → (c : Content) → AllFit scene c → IsReady (resumed scene c)
resumed-ready scene is short c fit = record {
  scene = is;
  scripts = short;
  rows = length-down_rows scene sessions;
  counts = length-replicate {A = ℕ} rows 0;
  there = λ p. ap (λ (row : Option Node). is_some row) (down-node scene is c p) ∙ there p;
  nodes = down-rows-hold scene is c (λ p row. IfSome row (IsNodeReady scene (history_of scene c) 0 p)) (λ p. tt) (λ p. tt);
  few_steps = omega arith;
  few_own = λ k. let h = at-replicate {A = ℕ} 0 rows k in omega (arith, h);
  few_notes = let few = placed-few (acts_of c) (nodes_of scene) (all_held c (nodes_of scene)) [] in let most = fit.short in omega (arith, few, most);
  few_made = λ new. absurd (cc (new));
  causes = CausesComeFirst-from_well_formed (history_of scene c) (history-well_formed scene c fit);
  messages = λ k m on. absurd (no_messages _ k m on);
} where
  there : (p : NodeId) → is_some (down_row scene p) ≡ is_node scene p
  there p = by (is_node scene p) where
    by : (b : Bool) → is_some (if b then Some Down else None) ≡ b
    by true = refl
    by false = refl

-- whatever the store holds of the nodes, they are down
pub resumed-backed : (scene : SceneModel) → IsScene scene → (c : Content) → IsProper c → (d : Content) → d.board ≡ c.board
    → IsBacked record (resumed scene c) { content = d }
resumed-backed scene is c proper d same = record {
  nodes = down-rows-hold scene is c (λ p row. IfSome row (λ n. IsNodeBacked n (row_of d p).tentative)) (λ p. tt) (λ p. tt);
  messages = λ k m on. absurd (no_messages _ k m on);
  board = subst Rattle.kt_model.specs.auxiliary.Backed.AreRising (sym same) proper.board.rising;
  few_instances = λ new. absurd (cc (new));
  few_incarnations = λ new p. absurd (cc (new));
}

pub resumed-sound : (scene : SceneModel) → IsScene scene → (c : Content) → AllFit scene c → IsSound (settled (resumed scene c))
resumed-sound scene is c fit = record {
  legal = λ p. (fit.fits p).allowed;
  well_formed = history-well_formed scene c fit;
  nodes = λ p. down-rows-hold scene is c (λ q row. NodeSoundIn scene h d q row) (λ q. sound q None tt tt tt) (λ q. sound q (Some Down) tt tt (ends q)) p;
  carries = λ p q m on. absurd (nothing_sent _ (link_place scene p q) m on);
} where
  h : List Note
  h = history_of scene c

  d : Content
  d = settled_content (Some (next_instance c - 1)) c

  row : NodeId → NodeRow
  row p = settled_row (Some (next_instance c - 1)) c (row_of c p)

  is-row : (p : NodeId) → IsAllSettled c (row_of c p) (row p)
  is-row p = all-settled c (row_of c p) (fit.instance_row p)

  Ends : NodeId → Option Node → NodeRow → Type 0
  Ends p real r = EndsAs (length (acts_in_log h p)) (acts_held r.permanent) r.tentative (verdict_on d r.tentative) real

  -- it holds all of its log
  whole : (p : NodeId) → length (acts_in_log h p) ≡ acts_held (row p).permanent
  whole p = log-long h p ∙ (fit.fits p).placed ∙ ap acts_held (sym (is-row p).1)

  ends : (p : NodeId) → Ends p (Some Down) (row p)
  ends p =
      let E : Option Tentative → Type 0 =
      λ t. EndsAs (length (acts_in_log h p)) (acts_held (row p).permanent) t (verdict_on d t) (Some Down) in
      subst E (sym (is-row p).0) (whole p)

  sound : (p : NodeId) (real : Option Node) → IsNodeLike scene.scripts p (acts_in_log h p) real → AreKept scene.shards h p real → Ends p real (row p)
      → NodeSoundIn scene h d p real
  sound p real like kept ends =
      let S : NodeRow → Type 0 =
      λ r. IsNodeSound scene h p (acts_in_log h p) real r.permanent r.tentative (verdict_on d r.tentative) in
      let T : Option Tentative → Type 0 = λ t. IfSome t (λ t. Rattle.kt_model.proofs.Sound.IsTentative scene p (acts_in_log h p) (row p).permanent
      t.checkpoint) in
      subst S (sym (row-settled (Some (next_instance c - 1)) c p)) (record {
        like = like;
        kept = kept;
        stored = record {
          permanent = subst (HoldsFront scene p (acts_in_log h p)) (sym (is-row p).1) (fit.fits p).leads;
          tentative = λ fine. subst T (sym (is-row p).0) tt;
        };
        ends = ends;
      })

passed-numbered : (state : Held) → PassedAsMany state → IsNumbered state
passed-numbered (states.Worker w) is = is
passed-numbered (states.Shard y) is = tt

pub resumed-fitting : (scene : SceneModel) → IsScene scene → (c : Content) → AllFit scene c → IsFitting (settled (resumed scene c))
resumed-fitting scene is c fit = record {
  rows = λ p.
      let R : NodeRow → Type 0 = IsRowOf (role_of scene p) in
      subst R (sym (row-settled (Some (next_instance c - 1)) c p)) (of p);
  ends = down-rows-hold scene is c (λ p row. EndsIn (length (log (history_of scene c) p)) (row_of (settled_content (Some (next_instance c - 1)) c) p).tentative
      row) (λ p. tt) (λ p. tt);
} where
  own : (p : NodeId) (stored : Option Ckpt) → IfSome stored (IsOf scene p) → IfSome stored (IsOfNode (role_of scene p))
  own p None is = tt
  own p (Some x) is = record {
    own = is.own ∙ sym (role-id scene p);
    sent = is.sent;
    received = is.received;
    numbered = passed-numbered x.state is.passed;
  }

  of : (p : NodeId) → IsRowOf (role_of scene p) (settled_row (Some (next_instance c - 1)) c (row_of c p))
  of p =
      let all = all-settled c (row_of c p) (fit.instance_row p) in
      let P : Option Ckpt → Type 0 = λ x. IfSome x (IsOfNode (role_of scene p)) in
      let T : Option Tentative → Type 0 = λ t. IfSome t (λ t. IsOfNode (role_of scene p) t.checkpoint) in
      record { permanent = subst P (sym all.1) (own p (permanent_of c p) (fit.fits p).of); tentative = subst T (sym all.0) tt }
