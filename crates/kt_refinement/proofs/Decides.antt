-- Who began an instance writes its verdict. Yes on a check is one step of the machine for all nodes at once.
-- Cited by Answering, Denies, JoinsCheck, Verdicts, Voting.
use Rattle.std.proofs.Common.{◌≡◌, ℕ, Bool, true, false, IsTrue, List, [], ◌∷◌, Option, Some, None, refl, sym, ap, subst, ◌∙◌, inl}
use Rattle.std.specs.List.{list_any}
use Rattle.kt_tuple.specs.declared.node.NodeId.{NodeId}
use Rattle.kt_tuple.specs.Node.{node_index, node_eq}
use Rattle.kt_history.specs.Log.{log}
use Rattle.kt_store.specs.declared.rows.NodeRow.{NodeRow}
use Rattle.kt_store.specs.declared.rows.Verdict.{Verdict as RealVerdict}
use Rattle.kt_store.specs.declared.rows.Verdict.TheVariants as verdicts
use Rattle.kt_store.specs.Content.{row_of, verdict_of, verdict_on}
use Rattle.kt_store.specs.Changes.{decided}
use Rattle.kt_vote.specs.Poll.{Poll, outcome_from, outcome_of}
use Rattle.kt_state.specs.declared.message.Message.{Message as RealMessage}
use Rattle.kt_state.specs.declared.live.Phase.{Phase}
use Rattle.kt_state.specs.declared.live.Phase.TheVariants as phases
use Rattle.kt_state.specs.declared.change.Change.{Change}
use Rattle.kt_state.specs.declared.change.Change.TheVariants as changes
use Rattle.kt_state.specs.declared.plan.Plan.{Plan}
use Rattle.kt_state.specs.declared.plan.Write.TheVariants as writes
use Rattle.kt_state.specs.Node.{Node as RealNode, Live, Alive}
use Rattle.kt_state.specs.Updating.{no_update}
use Rattle.kt_state.specs.Updating.{updated}
use Rattle.kt_state.specs.Stored.{is_undecided}
use Rattle.kt_node.specs.Learning.{verdict_to}
use Rattle.kt_scenario.specs.declared.step.Step.{Step}
use Rattle.kt_scenario.specs.Step.{owner}
use Rattle.kt_model.specs.State.{State as World, node}
use Rattle.kt_model.specs.Effect.{applied}
use Rattle.kt_model.proofs.Shared.{IsAlive, own-row}
use Rattle.kt_protocol.specs.Labels.{UpTo, at}
use Rattle.kt_protocol.specs.Logs.{Act, top_sent}
use Rattle.kt_protocol.specs.Machine.{Check, Yes, Ballot, Node, State}
use Rattle.kt_protocol.specs.Steps.{IsAgreed, consenting, change, decide, promote, decides_check}
use Rattle.kt_protocol.specs.Runs.{nothing_done, one_more}
use Rattle.kt_protocol.proofs.Shared.{at-both, sent-tail, Invariant}
use Rattle.kt_refinement.proofs.Numbers.{named, index-named, peers}
use Rattle.kt_refinement.proofs.Represents.{BallotIs, PhaseIs, NodeIs, NodeIn, Represents}
use Rattle.kt_refinement.proofs.Frames.{LinksLead, Refines, owner-in, nodes-at, votes-at, leads-represents}
use Rattle.kt_refinement.proofs.Known.{alive-is, held-is, voting-begun, check-open}
use Rattle.kt_refinement.proofs.RollsBack.{verdicts-cast}
use Rattle.kt_refinement.proofs.Settling.{node-yes, board-check}

-- ---- ballots

-- nothing is awaited and none refused
outcome-yes : (refused : Bool) (awaited : List NodeId) → outcome_from refused awaited ≡ Some true → (refused ≡ false) × (awaited ≡ [])
outcome-yes true awaited e = absurd (cc (e))
outcome-yes false [] e = (refl, refl)
outcome-yes false (x ∷ awaited) e = absurd (cc (e))

pub agreed-is : (peer : ℕ → ℕ → Bool) (o : ℕ) (b : Poll) (life : ℕ) (x : Ballot) → BallotIs b life x → outcome_of b ≡ Some true → IsAgreed peer o x
agreed-is peer o b life x is e =
    let both = outcome-yes b.refused b.awaited e in record {
      complete = λ q near.
          subst (λ k. x.awaited k ≡ false) (index-named q)
          (is.awaited (named q) ∙ ap (λ xs. list_any (λ y. node_eq y (named q)) xs) both.1);
      none = is.refused ∙ both.0;
    }

pub no-parent : (b : Poll) (life : ℕ) (x : Ballot) → BallotIs b life x → b.parent ≡ None → x.parent ≡ None
no-parent b life x is e = is.parent ∙ ap (Rattle.std.specs.Option.option_map Rattle.kt_refinement.proofs.Represents.asker_key) e

-- who began an instance says yes to itself; its real ballot does not tell
consented-is : (b : Poll) (life : ℕ) (x : Ballot) → BallotIs b life x → b.parent ≡ None → BallotIs b life (record x { voted = true })
consented-is b life x is e = record {
  parent = is.parent;
  awaited = is.awaited;
  refused = is.refused;
  voted = λ a f. absurd (cc (e, f));
  asks_in = is.asks_in;
}

-- ---- nodes

-- a node that turns nothing
pub unturned-is : (s : World) (p : NodeId) (n : Live) (x : Node) → NodeIn s.scene s.history s.content p (Some (Alive n)) x
    → NodeIn s.scene s.history s.content p (Some (Alive (updated no_update n))) x
unturned-is s p n x was = record {
  log = was.log;
  life = was.life;
  state = record {
    phase = was.state.phase;
    life = was.state.life;
    count = was.state.count;
    sent = was.state.sent;
    received = was.state.received;
    kept = was.state.kept;
  };
  perm = was.perm;
  tent = was.tent;
  lower = was.lower;
}

-- the rows stay as a verdict is written
pub rows-decided : (s : World) (i : ℕ) (agreed : Bool) (p : NodeId) (real : Option RealNode) (x : Node)
    → NodeIs s.scene s.history p (log s.history p) real (row_of s.content p) (verdict_on (decided i agreed s.content) (row_of s.content p).tentative) x
    → NodeIn s.scene s.history (decided i agreed s.content) p real x
rows-decided s i agreed p real x is =
    let W : NodeRow → Type 0 =
    λ row. NodeIs s.scene s.history p (log s.history p) real row (verdict_on (decided i agreed s.content) row.tentative) x in
    subst W (sym (own-row p (Some (writes.Decide i agreed)) s.content)) is

-- the plan before its write
abbrev pub updating_plan : Change → List (NodeId × RealMessage) → Plan
updating_plan change send = record { change = change; send = send; note = None; write = None }

abbrev pub deciding_plan : Change → List (NodeId × RealMessage) → ℕ → Bool → Plan
deciding_plan change send i agreed = record { change = change; send = send; note = None; write = Some (writes.Decide i agreed) }

pub opened-is : (v : Option RealVerdict) → IsTrue (is_undecided v) → v ≡ Some verdicts.Open
opened-is None t = absurd (cc (t))
opened-is (Some verdicts.Open) t = refl
opened-is (Some verdicts.Yes) t = absurd (cc (t))
opened-is (Some verdicts.No) t = absurd (cc (t))

-- the last label sent before the permanent checkpoint is no later than the last one
longer : (peer : ℕ → ℕ → Bool) (c : State) → Invariant peer c → (o : ℕ) (new : Node) → new.perm ≡ (c.node o).perm → new.log ≡ (c.node o).log → (k q : ℕ)
    → UpTo (top_sent (at o new c.node k).perm q) (top_sent (at o new c.node k).log q)
longer peer c inv o new perm log k q = at-both o new c.node k (λ (x : Node). UpTo (top_sent x.perm q) (top_sent x.log q))
    (λ e. subst (λ (l : List Act). UpTo (top_sent new.perm q) (top_sent l q)) (sym log)
    (subst (λ (l : List Act). UpTo (top_sent l q) (top_sent (c.node o).log q)) (sym perm) (sent-tail q (inv.local o).tail (inv.local o).falls)))
    (λ ne. sent-tail q (inv.local k).tail (inv.local k).falls)

-- ---- Yes on a check

pub says_yes_check : (s : World) (c : State) → Invariant (peers s.scene) c → Represents s c → (step : Step) (n : Live) (b : Poll) (asked : List NodeId)
    → IsAlive s (owner step) n → n.phase ≡ phases.Held b → b.parent ≡ None → IsTrue (is_undecided (verdict_of s.content b.instance)) → outcome_of b ≡ Some true
    → LinksLead s step (deciding_plan (changes.Update no_update) (verdict_to b.instance true asked) b.instance true) c c.link
    → Refines s step (deciding_plan (changes.Update no_update) (verdict_to b.instance true asked) b.instance true) c
says_yes_check s c inv is step n b asked alive held began undecided outcome links =
    let i = b.instance in
    let send = verdict_to b.instance true asked in
    let plan = deciding_plan (changes.Update no_update) send i true in
    let before = updating_plan (changes.Update no_update) send in
    let p = owner step in
    let o = node_index (owner step) in
    let was = alive-is s c is p n alive in
    let votes = held-is s c is p n b alive held in
    let begun = voting-begun (peers s.scene) c inv o (Check i) votes.ballot votes.within in
    let opened = opened-is (verdict_of s.content i) undecided in
    let new : Node = consenting (Check i) votes.ballot (c.node o) in
    let next : State = promote i (decide (Check i) Yes (change o (consenting (Check i) votes.ballot) c)) in
    let phase : PhaseIs n.phase (c.node o).life new.mode =
    subst (λ (f : Phase). PhaseIs f (c.node o).life new.mode) (sym held) (record {
      ballot = record votes.ballot { voted = true };
      within = refl;
      is = consented-is b (c.node o).life votes.ballot votes.is began;
    }) in
    let own : NodeIn s.scene s.history s.content p (Some (Alive (updated no_update n))) new = record {
      log = was.log;
      life = was.life;
      state = record {
        phase = phase;
        life = was.state.life;
        count = was.state.count;
        sent = was.state.sent;
        received = was.state.received;
        kept = was.state.kept;
      };
      perm = was.perm;
      tent = was.tent;
      lower = was.lower;
    } in
    record {
      next = next;
      run = one_more nothing_done
          (decides_check o i votes.ballot votes.within (no-parent b (c.node o).life votes.ballot votes.is began) (check-open s c is i undecided)
          (agreed-is (peers s.scene) o b (c.node o).life votes.ballot votes.is outcome));
      fresh = inl (tt, tt);
      stands = leads-represents s step plan c next is (record {
        nodes = λ q.
            rows-decided s i true q (node (applied s step plan) q) _
            (node-yes s.scene s.history q (log s.history q) (node (applied s step plan) q) (row_of s.content q) s.content i (at o new c.node
            (node_index q)) opened
            (λ k. longer (peers s.scene) c inv o new refl refl (node_index q) k)
            (nodes-at s step before c new is tt (λ r d. refl) (owner-in s step before (Some (Alive n)) new alive own) q));
        board = board-check s.content i true c.board begun is.board;
        links = links;
        votes = votes-at c o new (λ v m. m);
        cast = verdicts-cast _ i true asked;
      });
    }
