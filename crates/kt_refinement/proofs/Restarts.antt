-- A node restarts: the machine's fails, where it is not down with its permanent checkpoint's log, and restarts.
-- Cited by Restarting.
use Rattle.std.proofs.Common.{◌≡◌, ◌⊎◌, inl, inr, ℕ, suc, ◌+◌, false, IsTrue, List, [], ◌∷◌}
use Rattle.std.proofs.Common.{take, take_all, length, Option, Some, None, Ok, refl, sym, ap, subst, ◌∙◌, arith}
use Rattle.std.specs.List.{list_any}
use Rattle.kt_tuple.specs.declared.node.NodeId.{NodeId}
use Rattle.kt_tuple.specs.Node.{node_index, node_eq}
use Rattle.kt_history.specs.Log.{log}
use Rattle.kt_history.specs.Closed.{acts_in_log}
use Rattle.kt_store.specs.declared.rows.NodeRow.{NodeRow}
use Rattle.kt_store.specs.declared.rows.Purpose.TheVariants as purposes
use Rattle.kt_store.specs.declared.rows.Tentative.{Tentative}
use Rattle.kt_store.specs.Content.{Content, row_of, next_instance, verdict_on}
use Rattle.kt_state.specs.declared.live.Phase.TheVariants as phases
use Rattle.kt_state.specs.declared.plan.Plan.{Plan}
use Rattle.kt_state.specs.Labels.{label_at}
use Rattle.kt_state.specs.Node.{Live, Alive, neighbours, node_number}
use Rattle.kt_node.specs.Loading.{load}
use Rattle.kt_node.specs.Failing.{restarter, restarting_plan}
use Rattle.kt_scenario.specs.declared.step.Step.{Step}
use Rattle.kt_scenario.specs.declared.step.Step.TheVariants.{Deliver}
use Rattle.kt_scenario.specs.Step.{owner}
use Rattle.kt_scenario.specs.Scene.{is_node}
use Rattle.kt_model.specs.State.{State as World, role_of, view, node}
use Rattle.kt_model.specs.StoreReads.{stored_of}
use Rattle.kt_model.specs.Cut.{acts_held, permanent_by}
use Rattle.kt_model.specs.Effect.{applied}
use Rattle.kt_model.specs.auxiliary.Ready.{AreNeighbours}
use Rattle.kt_model.specs.Writing.{content_after}
use Rattle.kt_model.proofs.Shared.{log-long, Holds}
use Rattle.kt_protocol.specs.Logs.{IsIn, top_sent}
use Rattle.kt_protocol.specs.Machine.{Rollback, Ask, Node, State}
use Rattle.kt_protocol.specs.Steps as machine
use Rattle.kt_protocol.specs.Steps.{joining, loading, falling, cutting, asking, fails, begin, change, push}
use Rattle.kt_protocol.specs.Runs.{nothing_done, one_more}
use Rattle.kt_protocol.proofs.Shared.{at-here, Invariant}
use Rattle.kt_refinement.proofs.Numbers.{peers, label_of}
use Rattle.kt_refinement.proofs.Reading.{Reads}
use Rattle.kt_refinement.proofs.Represents.{carried, kept_from, NodeIs, NodeIn, Stands, TentativeIs, undecided, Represents}
use Rattle.kt_refinement.proofs.Links.{to}
use Rattle.kt_refinement.proofs.Cohorts.{cohort, chosen-cohort}
use Rattle.kt_refinement.proofs.Frames.{Refines, owner-in, nodes-at, votes-at, sends-only, leads-represents}
use Rattle.kt_refinement.proofs.Known.{all-chosen}
use Rattle.kt_refinement.proofs.JoinsRollback.{everyone, everyone-is, everyone-asked, roll-asks-to, roll-asks-cast}
use Rattle.kt_refinement.proofs.Loading.{LoadedAs, loaded-as, loaded-sent, loaded-received}
use Rattle.kt_refinement.proofs.RollsBack.{stored-stands}
use Rattle.kt_refinement.proofs.Beginning.{next-unbegun-rollback, board-begun, verdicts-stay}
use Rattle.kt_refinement.proofs.Denies.{twice}

-- the machine's node behind a restart
abbrev restarted_node : World → NodeId → ℕ → Node → Node
restarted_node s p k x = joining (Rollback k) None (cohort s.scene p everyone) (loading x)

restarted-is : (s : World) (c : State) → Represents s c → Holds s → (p : NodeId) (live : Live) (k : ℕ) (d : Content) → IsTrue (is_node s.scene p)
    → (row_of s.content p).tentative ≡ None
    → length (acts_in_log s.history p) ≡ acts_held (row_of s.content p).permanent → load (view s p) (stored_of s.content p) ≡ Ok live
    → NodeIs s.scene s.history p (log s.history p) (Some (Alive (record live { phase = phases.Rolling (restarter (view s p) (stored_of s.content p) k) })))
    (record (row_of s.content p) { incarnation = (row_of s.content p).incarnation + 1 }) (verdict_on d (row_of s.content p).tentative)
    (restarted_node s p k (falling (cutting (c.node (node_index p)))))
unfolding kept_from
restarted-is s c is h p live k d there none long from = record {
  log = subst (λ l. Reads s.history l x.perm) whole stored.reads;
  life = let e = was.life in omega (arith, e);
  state = record {
    phase = record {
      ballot = record { parent = None; awaited = cohort s.scene p everyone; refused = false; voted = false };
      within = refl;
      is = record {
        parent = refl;
        awaited = λ r. chosen-cohort s.scene p everyone r there ∙ ap (λ xs. list_any (λ y. node_eq y r) xs) (all-chosen (neighbours (role_of s.scene p)));
        refused = refl;
        voted = λ a e. refl;
        asks_in = let e = was.life in omega (arith, e);
      };
    };
    life = let e = was.life in let f = loaded.incarnation_is in omega (arith, e, f);
    count = loaded.count;
    sent = loaded-sent s.scene h.ready.scene s.history p numbers row.permanent _ live x.perm loaded stored;
    received = loaded-received s.scene h.ready.scene s.history p numbers row.permanent _ live x.perm loaded stored;
    kept = λ q. subst (λ l. [] ≡ kept_from q l) (sym loaded.kept) refl;
  };
  perm = subst Perm (sym none) stored;
  tent = subst Tent (sym none) (subst Was none was.tent);
  lower = was.lower;
}
  where
    row : NodeRow
    row = row_of s.content p

    numbers : List ℕ
    numbers = log s.history p

    x : Node
    x = c.node (node_index p)

    was : NodeIn s.scene s.history s.content p (node s p) (c.node (node_index p))
    was = is.nodes p

    stored : Stands s.scene s.history p numbers row.permanent x.perm
    stored = stored-stands s p numbers x.perm none was.perm

    whole : take (acts_held row.permanent) numbers ≡ numbers
    whole = let e = log-long s.history p in take_all (acts_held row.permanent) numbers (omega (arith, e, long))

    loaded : LoadedAs row.permanent (row.incarnation + 1) live
    loaded = loaded-as (view s p) (stored_of s.content p) live from

    Perm : Option Tentative → Type 0
    Perm t = Stands s.scene s.history p numbers (permanent_by (verdict_on d t) t row.permanent) x.perm

    Tent : Option Tentative → Type 0
    Tent t = TentativeIs s.scene s.history p numbers (undecided (verdict_on d t) t) x.tent x.perm

    Was : Option Tentative → Type 0
    Was t = TentativeIs s.scene s.history p numbers (undecided (verdict_on s.content t) t) x.tent x.log

-- ---- the leaf, of a node that is down and of one whose rollback got No

pub restarts_so : (s : World) (c : State) → Invariant (peers s.scene) c → Represents s c → Holds s → (step : Step) (live : Live)
    → ((x y : NodeId) → step ≡ Deliver x y → ⊥) → IsTrue (is_node s.scene (owner step)) → node s (owner step)
    ≡ Some (Rattle.kt_state.specs.Node.Down) ⊎ ((n : Live) × (node s (owner step) ≡ Some (Alive n)))
    → (row_of s.content (owner step)).tentative ≡ None
    → length (acts_in_log s.history (owner step)) ≡ acts_held (row_of s.content (owner step)).permanent
    → load (view s (owner step)) (stored_of s.content (owner step)) ≡ Ok live
    → Refines s step (restarting_plan (view s (owner step)) (stored_of s.content (owner step)) (next_instance s.content) live) c
unfolding carried
restarts_so s c inv is h step live no_delivery there known none long from = record {
  next = next;
  run = one_more
      (one_more nothing_done (fails o no_tent))
      (machine.restarts o k (cohort s.scene p everyone) (ap (λ (x : Node). x.mode) down) (ap (λ (x : Node). x.tent) down ∙ no_tent)
      (ap (λ (x : Node). x.log) down ∙ ap (λ (x : Node). x.perm) (sym down)) (next-unbegun-rollback s c is)
      (everyone-is s p k (first.node o)));
  fresh = inl ((tt, tt), tt);
  stands = leads-represents s step plan c next is (record {
    nodes = λ q.
        let X : Node → Type 0 =
        λ x. NodeIn s.scene s.history (content_after p plan.write s.content) q (node (applied s step plan) q) x in
        subst X (sym (twice o (restarted_node s p k) (falling (cutting (c.node o))) c.node (node_index q)))
        (nodes-at s step plan c new is tt (λ r d. verdicts-stay s c inv is p r purposes.Rollback) own q);
    board = board-begun p purposes.Rollback s.content c.board is.board;
    links = sends-only s step plan c (asking (Rollback k) (cohort s.scene p everyone) (loading (first.node o))) no_delivery sends;
    votes = λ m v i.
        let X : Node → Type 0 = λ x. IsIn v x.votes in
        subst X (sym (twice o (restarted_node s p k) (falling (cutting (c.node o))) c.node m)) (votes-at c o new (λ w l. l) m v i);
    cast = roll-asks-cast _ k ((row_of s.content p).incarnation + 1) (label_at live.sent) (neighbours (role_of s.scene p));
  });
} where
  p : NodeId
  p = owner step

  o : ℕ
  o = node_index (owner step)

  k : ℕ
  k = next_instance s.content

  plan : Plan
  plan = restarting_plan (view s (owner step)) (stored_of s.content (owner step)) (next_instance s.content) live

  first : State
  first = change o (λ x. falling (cutting x)) c

  next : State
  next = begin (Rollback k) (change o (λ x. joining (Rollback k) None (cohort s.scene p everyone) (loading x))
      (push o (asking (Rollback k) (cohort s.scene p everyone) (loading (first.node o))) first))

  new : Node
  new = restarted_node s p k (falling (cutting (c.node o)))

  down : first.node o ≡ falling (cutting (c.node o))
  down = at-here o (falling (cutting (c.node o))) c.node

  Was : Option Tentative → Type 0
  Was t = TentativeIs s.scene s.history p (log s.history p) (undecided (verdict_on s.content t) t) (c.node o).tent (c.node o).log

  no_tent : (c.node o).tent ≡ None
  no_tent = subst Was none (is.nodes p).tent

  becomes : NodeIs s.scene s.history p (log s.history p) (Some (Alive (record live {
    phase = phases.Rolling (restarter (view s p)
        (stored_of s.content p) k);
  })))
      (record (row_of s.content p) { incarnation = (row_of s.content p).incarnation + 1 })
      (verdict_on (content_after p plan.write s.content) (row_of s.content p).tentative) new
  becomes = restarted-is s c is h p live k (content_after p plan.write s.content) there none long from

  own : NodeIn s.scene s.history (content_after p plan.write s.content) p (node (applied s step plan) p) new
  own = by known where
    by : node s p ≡ Some (Rattle.kt_state.specs.Node.Down) ⊎ ((n : Live) × (node s p ≡ Some (Alive n)))
        → NodeIn s.scene s.history (content_after p plan.write s.content) p (node (applied s step plan) p) new
    by (inl e) = owner-in s step plan (Some (Rattle.kt_state.specs.Node.Down)) new e becomes
    by (inr e) = owner-in s step plan (Some (Alive e.0)) new e.1 becomes

  label : (r : NodeId) → AreNeighbours s.scene p r → label_of (label_at live.sent (node_number r)) ≡ top_sent (c.node o).perm (node_index r)
  label r near =
      loaded-sent s.scene h.ready.scene s.history p (log s.history p) (row_of s.content p).permanent _ live (c.node o).perm
      (loaded-as (view s p) (stored_of s.content p) live from) (stored-stands s p (log s.history p) (c.node o).perm none (is.nodes p).perm) r near

  later : (row_of s.content p).incarnation + 1 ≡ suc (c.node o).life
  later = let e = (is.nodes p).life in omega (arith, e)

  sends : (r : NodeId) → AreNeighbours s.scene p r
      → asking (Rollback k) (cohort s.scene p everyone) (loading (first.node o)) (node_index r) ≡ carried (to r plan.send)
  sends r near =
      rw (everyone-asked s p r near) (sym (
      ap carried (roll-asks-to s p r k ((row_of s.content p).incarnation + 1) (label_at live.sent) near)
      ∙ ap (λ l. Ask (Rollback k) l ((row_of s.content p).incarnation + 1) ∷ []) (label r near)
      ∙ ap (λ i. Ask (Rollback k) (top_sent (c.node o).perm (node_index r)) i ∷ []) later
      ∙ ap (λ (x : Node). Ask (Rollback k) (top_sent x.perm (node_index r)) (suc x.life) ∷ []) (sym down)))
