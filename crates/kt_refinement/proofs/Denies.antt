-- No on an instance, and Yes on a rollback.
-- Cited by CountsVote, Hearing, JoinsCheck, Restarts, Verdicts.
use Rattle.std.proofs.Common.{◌≡◌, ◌≢◌, ℕ, true, false, IsTrue, List, Option, Some, None, refl, sym, ap, subst, ◌∙◌, inl}
use Rattle.std.specs.Option.{option_map}
use Rattle.kt_tuple.specs.declared.node.NodeId.{NodeId}
use Rattle.kt_tuple.specs.Node.{node_index}
use Rattle.kt_history.specs.Log.{log}
use Rattle.kt_store.specs.declared.rows.InstanceRow.{InstanceRow}
use Rattle.kt_store.specs.declared.rows.Purpose.{Purpose}
use Rattle.kt_store.specs.declared.rows.Purpose.TheVariants as purposes
use Rattle.kt_store.specs.Content.{row_of, instance_row, verdict_of}
use Rattle.kt_vote.specs.Poll.{Poll, outcome_of}
use Rattle.kt_state.specs.declared.message.Message.{Message as RealMessage}
use Rattle.kt_state.specs.declared.live.Phase.TheVariants as phases
use Rattle.kt_state.specs.declared.change.Change.{Change}
use Rattle.kt_state.specs.Node.{Node as RealNode, Live, Alive}
use Rattle.kt_state.specs.Updating.{no_update, updating_to}
use Rattle.kt_state.specs.Updating.{changed, updated}
use Rattle.kt_state.specs.Stored.{is_undecided}
use Rattle.kt_node.specs.Learning.{verdict_to}
use Rattle.kt_scenario.specs.declared.step.Step.{Step}
use Rattle.kt_scenario.specs.Step.{owner}
use Rattle.kt_model.specs.State.{State as World, node}
use Rattle.kt_model.specs.Effect.{applied}
use Rattle.kt_model.proofs.Shared.{IsAlive}
use Rattle.kt_protocol.specs.Labels.{at}
use Rattle.kt_protocol.specs.Machine.{Check, Rollback, Yes, No, Node, State}
use Rattle.kt_protocol.specs.Steps.{consenting, rising, change, decide, discard, decides_rollback, gives_up_check, gives_up_rollback}
use Rattle.kt_protocol.specs.Runs.{nothing_done, one_more}
use Rattle.kt_protocol.proofs.Shared.{at-both, at-here, at-else, at-same, Invariant}
use Rattle.kt_refinement.proofs.Numbers.{peers}
use Rattle.kt_refinement.proofs.Represents.{NodeIn, begun_as, is_for, Represents}
use Rattle.kt_refinement.proofs.Frames.{LinksLead, Refines, owner-in, nodes-at, votes-at, leads-represents}
use Rattle.kt_refinement.proofs.Known.{alive-is, rolling-is, voting-begun, rollback-open, check-open}
use Rattle.kt_refinement.proofs.RollsBack.{verdicts-cast}
use Rattle.kt_refinement.proofs.Settling.{releasing, node-no, node-else, board-check, board-rollback}
use Rattle.kt_refinement.proofs.Decides.{agreed-is, no-parent, rows-decided, updating_plan, deciding_plan, opened-is}

-- a node whose change turns nothing stands for what it stood for
pub record IsIdle (s : World) (step : Step) (c : State) (change : Change) : Type 0 where
  pub was : Option RealNode
  pub is_was : node s (owner step) ≡ was
  pub same : NodeIn s.scene s.history s.content (owner step) (option_map (changed change) was) (c.node (node_index (owner step)))

-- so do all
idle-nodes : (s : World) (step : Step) (c : State) (change : Change) (send : List (NodeId × RealMessage)) → Represents s c → IsIdle s step c change
    → (q : NodeId)
    → NodeIn s.scene s.history s.content q (node (applied s step (updating_plan change send)) q) (c.node (node_index q))
idle-nodes s step c change send is idle q =
    let before = updating_plan change send in
    let o = node_index (owner step) in
    let X : Node → Type 0 = λ x. NodeIn s.scene s.history s.content q (node (applied s step before) q) x in
    subst X (sym (at-same o c.node (node_index q)))
    (nodes-at s step before c (c.node o) is tt (λ r d. refl) (owner-in s step before idle.was (c.node o) idle.is_was idle.same) q)

-- ---- No on a check

pub says_no_check : (s : World) (c : State) → Represents s c → (step : Step) (change : Change) (i : ℕ) (asked : List NodeId) → IsIdle s step c change
    → c.board.begun (Check i) ≡ true → IsTrue (is_undecided (verdict_of s.content i))
    → LinksLead s step (deciding_plan change (verdict_to i false asked) i false) c c.link
    → Refines s step (deciding_plan change (verdict_to i false asked) i false) c
says_no_check s c is step change i asked idle begun undecided links =
    let plan = deciding_plan change (verdict_to i false asked) i false in
    let opened = opened-is (verdict_of s.content i) undecided in
    let next : State = discard i (decide (Check i) No c) in
    record {
      next = next;
      run = one_more nothing_done (gives_up_check i begun (check-open s c is i undecided));
      fresh = inl (tt, tt);
      stands = leads-represents s step plan c next is (record {
        nodes = λ q.
            rows-decided s i false q (node (applied s step plan) q) (releasing i (c.node (node_index q)))
            (node-no s.scene s.history q (log s.history q) (node (applied s step plan) q) (row_of s.content q) s.content i (c.node (node_index q)) opened
            (idle-nodes s step c change (verdict_to i false asked) is idle q));
        board = board-check s.content i false c.board begun is.board;
        links = links;
        votes = λ p v m. m;
        cast = verdicts-cast _ i false asked;
      });
    }

-- ---- a rollback

pub both-purposes : (o : Option InstanceRow) → begun_as purposes.Check o ≡ true → begun_as purposes.Rollback o ≡ true → ⊥
both-purposes None e f = absurd (cc (e))
both-purposes (Some row) e f = by row.purpose e f where
  by : (purpose : Purpose) → is_for purposes.Check purpose ≡ true → is_for purposes.Rollback purpose ≡ true → ⊥
  by purposes.Check e f = absurd (cc (f))
  by purposes.Rollback e f = absurd (cc (e))

-- nobody has a tentative checkpoint of a rollback
none-of-it : (s : World) (c : State) → Invariant (peers s.scene) c → Represents s c → (i : ℕ) → c.board.begun (Rollback i) ≡ true → (k : ℕ)
    → (c.node k).tent ≢ Some i
none-of-it s c inv is i begun k e =
    let held = ((inv.local k).holding i e).1 in
    both-purposes (instance_row s.content i) (sym (is.board i).check_begun ∙ ((inv.local k).members (Check i) (c.node k).life held).1)
    (sym (is.board i).rollback_begun ∙ begun)

pub says_no_rollback : (s : World) (c : State) → Invariant (peers s.scene) c → Represents s c → (step : Step) (change : Change) (i : ℕ) (asked : List NodeId)
    → IsIdle s step c change → c.board.begun (Rollback i) ≡ true → IsTrue (is_undecided (verdict_of s.content i))
    → LinksLead s step (deciding_plan change (verdict_to i false asked) i false) c c.link
    → Refines s step (deciding_plan change (verdict_to i false asked) i false) c
says_no_rollback s c inv is step change i asked idle begun undecided links =
    let plan = deciding_plan change (verdict_to i false asked) i false in
    let opened = opened-is (verdict_of s.content i) undecided in
    let next : State = decide (Rollback i) No c in
    record {
      next = next;
      run = one_more nothing_done (gives_up_rollback i begun (rollback-open s c is i undecided));
      fresh = inl (tt, tt);
      stands = leads-represents s step plan c next is (record {
        nodes = λ q.
            rows-decided s i false q (node (applied s step plan) q) (c.node (node_index q))
            (node-else s.scene s.history q (log s.history q) (node (applied s step plan) q) (row_of s.content q) s.content i false (c.node
            (node_index q)) opened
            (none-of-it s c inv is i begun (node_index q))
            (idle-nodes s step c change (verdict_to i false asked) is idle q));
        board = board-rollback s.content i false c.board begun is.board;
        links = links;
        votes = λ p v m. m;
        cast = verdicts-cast _ i false asked;
      });
    }

-- ---- Yes on a rollback

pub twice : {A : Type 0} (o : ℕ) (g : A → A) (b : A) (f : ℕ → A) (k : ℕ) → at o (g (at o b f o)) (at o b f) k ≡ at o (g b) f k
twice {A} o g b f k = at-both o (g b) f k (λ (x : A). at o (g (at o b f o)) (at o b f) k ≡ x)
    (λ e. subst (λ j. at o (g (at o b f o)) (at o b f) j ≡ g b) (sym e) (at-here o (g (at o b f o)) (at o b f) ∙ ap g (at-here o b f)))
    (λ ne. at-else o (g (at o b f o)) (at o b f) k ne ∙ at-else o b f k ne)

pub says_yes_rollback : (s : World) (c : State) → Invariant (peers s.scene) c → Represents s c → (step : Step) (n : Live) (b : Poll) (asked : List NodeId)
    → IsAlive s (owner step) n → n.phase ≡ phases.Rolling b → b.parent ≡ None → IsTrue (is_undecided (verdict_of s.content b.instance)) → outcome_of b
    ≡ Some true
    → LinksLead s step (deciding_plan (updating_to phases.Up) (verdict_to b.instance true asked) b.instance true) c c.link
    → Refines s step (deciding_plan (updating_to phases.Up) (verdict_to b.instance true asked) b.instance true) c
says_yes_rollback s c inv is step n b asked alive rolling began undecided outcome links =
    let i = b.instance in
    let send = verdict_to b.instance true asked in
    let plan = deciding_plan (updating_to phases.Up) send i true in
    let before = updating_plan (updating_to phases.Up) send in
    let p = owner step in
    let o = node_index (owner step) in
    let was = alive-is s c is p n alive in
    let votes = rolling-is s c is p n b alive rolling in
    let begun = voting-begun (peers s.scene) c inv o (Rollback i) votes.ballot votes.within in
    let opened = opened-is (verdict_of s.content i) undecided in
    let agreed : Node = consenting (Rollback i) votes.ballot (c.node o) in
    let new : Node = rising agreed in
    let next : State = decide (Rollback i) Yes (change o rising (change o (consenting (Rollback i) votes.ballot) c)) in
    let own : NodeIn s.scene s.history s.content p (Some (Alive (updated record no_update { phase = Some phases.Up } n))) new = record {
      log = was.log;
      life = was.life;
      state = record {
        phase = refl;
        life = was.state.life;
        count = was.state.count;
        sent = was.state.sent;
        received = was.state.received;
        kept = was.state.kept;
      };
      perm = was.perm;
      tent = was.tent;
      lower = was.lower;
    } in
    record {
      next = next;
      run = one_more nothing_done
          (decides_rollback o i votes.ballot votes.within (no-parent b (c.node o).life votes.ballot votes.is began) (rollback-open s c is i undecided)
          (agreed-is (peers s.scene) o b (c.node o).life votes.ballot votes.is outcome));
      fresh = inl (tt, tt);
      stands = leads-represents s step plan c next is (record {
        nodes = λ q.
            let X : Node → Type 0 = λ x. NodeIn s.scene s.history (Rattle.kt_store.specs.Changes.decided i true s.content) q (node (applied s step plan) q) x in
            subst X (sym (twice o rising agreed c.node (node_index q)))
            (rows-decided s i true q (node (applied s step plan) q) (at o new c.node (node_index q))
            (node-else s.scene s.history q (log s.history q) (node (applied s step plan) q) (row_of s.content q) s.content i true (at o new c.node
            (node_index q)) opened
            (at-both o new c.node (node_index q) (λ (x : Node). x.tent ≢ Some i)
            (λ e. none-of-it s c inv is i begun o) (λ ne. none-of-it s c inv is i begun (node_index q)))
            (nodes-at s step before c new is tt (λ r d. refl) (owner-in s step before (Some (Alive n)) new alive own) q)));
        board = board-rollback s.content i true c.board begun is.board;
        links = links;
        votes = λ k v m.
            let V : Node → Type 0 = λ x. Rattle.kt_protocol.specs.Logs.IsIn v x.votes in
            subst V (sym (twice o rising agreed c.node k)) (votes-at c o new (λ w l. l) k v m);
        cast = verdicts-cast _ i true asked;
      });
    }
