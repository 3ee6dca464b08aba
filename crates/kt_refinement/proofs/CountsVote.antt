-- A vote that comes is counted, and may make the node cast its own: one or two steps of the machine.
-- Cited by JoinsCheck, Refining.
use Rattle.std.proofs.Common.{◌≡◌, ℕ, Bool, true, false, IsTrue, List, Contains, Option, Some, None, inl, inr, refl, sym, ap, subst, ◌∙◌}
use Rattle.std.specs.List.{AllByRecursion}
use Rattle.kt_tuple.specs.declared.node.NodeId.{NodeId}
use Rattle.kt_tuple.specs.Node.{node_index}
use Rattle.kt_history.proofs.Shared.{Contains-here}
use Rattle.kt_store.specs.Content.{instance_row}
use Rattle.kt_vote.specs.declared.vote.Vote.{Vote as RealVote}
use Rattle.kt_vote.specs.Poll.{Poll, counts, counted}
use Rattle.kt_state.specs.declared.message.Message.{Message as RealMessage}
use Rattle.kt_state.specs.declared.message.Message.TheVariants as messages
use Rattle.kt_state.specs.declared.live.Phase.{Phase}
use Rattle.kt_state.specs.declared.live.Phase.TheVariants as phases
use Rattle.kt_state.specs.Node.{Live, Alive}
use Rattle.kt_state.specs.Updating.{no_update}
use Rattle.kt_state.specs.Updating.{updated}
use Rattle.kt_state.specs.Voting.{casting, vote_for, poll_after, voted, votes}
use Rattle.kt_node.specs.Arrivals.{voting_plan}
use Rattle.kt_scenario.specs.declared.step.Step.TheVariants.{Deliver}
use Rattle.kt_model.specs.State.{State as World, node}
use Rattle.kt_model.specs.Effect.{applied}
use Rattle.kt_model.proofs.Shared.{IsAlive, Comes, Votes as VotesSo, holds, rolls, neighbours-turned}
use Rattle.kt_protocol.specs.Logs.{IsIn}
use Rattle.kt_protocol.specs.Machine.{Instance, Check, Rollback, Key, Ballot, Within, Node, State}
use Rattle.kt_protocol.specs.Steps as machine
use Rattle.kt_protocol.specs.Steps.{change, counting}
use Rattle.kt_protocol.specs.Runs.{nothing_done, one_more}
use Rattle.kt_protocol.proofs.Shared.{at-here, Invariant, a_vote, a_key}
use Rattle.kt_refinement.proofs.Numbers.{peers}
use Rattle.kt_refinement.proofs.Represents.{asker_key, WasCast, BallotIs, Votes, NodeIn, Represents}
use Rattle.kt_refinement.proofs.Frames.{CastSo, Refines, owner-in, nodes-at, votes-at, leads-represents}
use Rattle.kt_refinement.proofs.Silence.{links-silent, IsSilent}
use Rattle.kt_refinement.proofs.Known.{alive-is, rolling-is, held-is, near-is, voting-begun}
use Rattle.kt_refinement.proofs.Denies.{both-purposes, twice}
use Rattle.kt_refinement.proofs.Voting.{IsKind, checks, rollbacks, counted-is, phase-updated, IsDue, nothing, due}
use Rattle.kt_refinement.proofs.Voting.{is_due, cast_node, casts-step, cast-is, cast-among, cast-more, Counted, counted-so}

pub own-silent : (o : Option (NodeId × RealVote)) → AllByRecursion IsSilent (votes o)
own-silent None = tt
own-silent (Some v) = (refl, tt)

-- the node behind the vote that it has to cast, if it has to
counts-so : (s : World) (c : State) → Represents s c → (p q : NodeId) (n : Live) (vote : RealVote) (b : Poll) (phase : Poll → Phase) (k : IsKind phase)
    → Comes s p q (messages.Vote vote) → IsAlive s q n → (v : Votes (k.kind b.instance) b (c.node (node_index q)).life (c.node (node_index q)).mode)
    → Counted b p vote
    → IsIn (a_vote (k.kind b.instance) (a_key (node_index q) (c.node (node_index q)).life) vote.yes) (c.node (node_index p)).votes
    → (own : Option (NodeId × RealVote)) → IsDue (counted b p vote.yes) own
    → Refines s (Deliver p q) (voting_plan (phase (poll_after (counted b p vote.yes) own)) own) c
counts-so s c is p q n vote b phase k comes alive v so among own nothing =
    let plan = voting_plan (phase (counted b p vote.yes)) None in
    let o = node_index q in
    let i = k.kind b.instance in
    let ballot : Ballot = machine.counted (node_index p) vote.yes v.ballot in
    let new : Node = counting i v.ballot (node_index p) vote.yes (c.node o) in
    let next : State = change o (counting i v.ballot (node_index p) vote.yes) c in
    let life = (c.node o).life in
    record {
      next = next;
      run = one_more nothing_done
          (machine.counts o (node_index p) i v.ballot vote.yes (near-is s q p (neighbours-turned s.scene p q comes.neighbours)) v.within
          (v.is.awaited p ∙ so.awaited) among);
      fresh = inl (tt, tt);
      stands = leads-represents s (Deliver p q) plan c next is (record {
        nodes = nodes-at s (Deliver p q) plan c new is tt (λ r d. refl) (owner-in s (Deliver p q) plan (Some (Alive n)) new alive
            (phase-updated s q n (c.node o) (phase (counted b p vote.yes)) (Within i ballot) (c.node o).votes (c.node o).said (alive-is s c is q n alive)
            (k.into (counted b p vote.yes) life (Within i ballot)
            (record { ballot = ballot; within = refl; is = counted-is b life v.ballot p vote.yes v.is }))));
        board = is.board;
        links = links-silent s p q plan c (messages.Vote vote) is comes refl tt;
        votes = votes-at c o new (λ w m. m);
        cast = tt;
      });
    }
counts-so s c is p q n vote b phase k comes alive v so among own (due parent agreed has unvoted outcome) =
    let after = counted b p vote.yes in
    let own = vote_for b.instance parent agreed in
    let plan = voting_plan (phase (voted after)) (Some own) in
    let o = node_index q in
    let i = k.kind b.instance in
    let key = asker_key parent in
    let life = (c.node o).life in
    let ballot : Ballot = machine.counted (node_index p) vote.yes v.ballot in
    let is_ballot = counted-is b life v.ballot p vote.yes v.is in
    let first : Node = counting i v.ballot (node_index p) vote.yes (c.node o) in
    let new : Node = cast_node i ballot key agreed first in
    let middle : State = change o (counting i v.ballot (node_index p) vote.yes) c in
    let next : State = change o (cast_node i ballot key agreed) middle in
    let was : NodeIn s.scene s.history s.content q (Some (Alive n)) (c.node o) = alive-is s c is q n alive in
    let last =
    casts-step (peers s.scene) middle o i after life ballot parent agreed (ap (λ (x : Node). x.mode) (at-here o first c.node)) is_ballot has unvoted
    (λ e. outcome ∙ ap Some e) in
    record {
      next = next;
      run = one_more
          (one_more nothing_done
          (machine.counts o (node_index p) i v.ballot vote.yes (near-is s q p (neighbours-turned s.scene p q comes.neighbours)) v.within
          (v.is.awaited p ∙ so.awaited) among))
          last.step;
      fresh = inl ((tt, tt), last.quiet);
      stands = leads-represents s (Deliver p q) plan c next is (record {
        nodes = λ r.
            let X : Node → Type 0 = λ x. NodeIn s.scene s.history s.content r (node (applied s (Deliver p q) plan) r) x in
            subst X (sym (twice o (cast_node i ballot key agreed) first c.node (node_index r)))
            (nodes-at s (Deliver p q) plan c new is tt (λ r d. refl) (owner-in s (Deliver p q) plan (Some (Alive n)) new alive
            (cast-behind s q n (c.node o) phase k after ballot key agreed was is_ballot)) r);
        board = is.board;
        links = links-silent s p q plan c (messages.Vote vote) is comes refl (refl, tt);
        votes = λ m w l.
            let X : Node → Type 0 = λ x. IsIn w x.votes in
            subst X (sym (twice o (cast_node i ballot key agreed) first c.node m)) (votes-at c o new (cast-more i ballot key agreed first) m w l);
        cast =
            let X : Node → Type 0 = λ x. AllByRecursion (CastSo x.votes) plan.send in
            subst X (sym (twice o (cast_node i ballot key agreed) first c.node o ∙ at-here o new c.node))
            (k.cast new.votes parent.node own.1 (cast-among i ballot key agreed first), tt);
      });
    }
  where
    cast-behind : (s : World) (q : NodeId) (n : Live) (x : Node) (phase : Poll
        → Phase) (k : IsKind phase) (after : Poll) (ballot : Ballot) (key : Key) (agreed : Bool)
        → NodeIn s.scene s.history s.content q (Some (Alive n)) x → BallotIs after x.life ballot
        → NodeIn s.scene s.history s.content q (Some (Alive (updated record no_update { phase = Some (phase (voted after)) } n)))
        (cast_node (k.kind after.instance) ballot key agreed record x { mode = Within (k.kind after.instance) ballot })
    cast-behind s q n x phase k after ballot key true was is = cast-is s q n x phase k after ballot key true was is
    cast-behind s q n x phase k after ballot key false was is = cast-is s q n x phase k after ballot key false was is

-- the vote that comes was cast in the ballot's instance, and not in one of the other kind
pub counts_vote : (s : World) (c : State) → Invariant (peers s.scene) c → Represents s c
    → (p q : NodeId) (n : Live) (vote : RealVote) (b : Poll) (phase : Poll → Phase)
    → Comes s p q (messages.Vote vote) → IsAlive s q n → VotesSo n.phase b phase → IsTrue (counts b p vote)
    → Refines s (Deliver p q) (voting_plan (phase (poll_after (counted b p vote.yes) (casting (counted b p vote.yes)))) (casting (counted b p vote.yes))) c
counts_vote s c inv is p q n vote b phase comes alive votes_so counts_it = by n.phase refl b phase votes_so (counted-so b p vote counts_it) where
  was : WasCast (c.node (node_index p)).votes q vote
  was = (is.links p q comes.neighbours).cast vote (subst (λ (l : List RealMessage). Contains l (messages.Vote vote)) (sym comes.on) (Contains-here
      (messages.Vote vote) comes.later))

  begun : (i : Instance) (life : ℕ) (y : Bool) → IsIn (a_vote i (a_key (node_index q) life) y) (c.node (node_index p)).votes → c.board.begun i ≡ true
  begun i life y m =
      ((inv.local (node_index q)).members i life
      ((inv.pair (node_index q) (node_index p) (near-is s q p (neighbours-turned s.scene p q comes.neighbours))).votes i life y m)).1

  clash : (i : ℕ) → c.board.begun (Check i) ≡ true → c.board.begun (Rollback i) ≡ true → ⊥
  clash i e f = both-purposes (instance_row s.content i) (sym (is.board i).check_begun ∙ e) (sym (is.board i).rollback_begun ∙ f)

  check : (b : Poll) (life : ℕ) → c.board.begun (Check b.instance) ≡ true → b.incarnation ≡ life → Counted b p vote
      → WasCast (c.node (node_index p)).votes q vote
      → IsIn (a_vote (Check b.instance) (a_key (node_index q) life) vote.yes) (c.node (node_index p)).votes
  check b life e asks so (inl m) =
      let I : ℕ → Type 0 = λ i. IsIn (a_vote (Check i) (a_key (node_index q) life) vote.yes) (c.node (node_index p)).votes in
      let C : ℕ → Type 0 = λ d. IsIn (a_vote (Check vote.instance) (a_key (node_index q) d) vote.yes) (c.node (node_index p)).votes in
      subst I so.instance (subst C (so.incarnation ∙ asks) m)
  check b life e asks so (inr m) =
      absurd (clash b.instance e (ap (λ i. c.board.begun (Rollback i)) (sym so.instance) ∙ begun (Rollback vote.instance) vote.incarnation vote.yes m))

  rollback : (b : Poll) (life : ℕ) → c.board.begun (Rollback b.instance) ≡ true → b.incarnation ≡ life → Counted b p vote
      → WasCast (c.node (node_index p)).votes q vote
      → IsIn (a_vote (Rollback b.instance) (a_key (node_index q) life) vote.yes) (c.node (node_index p)).votes
  rollback b life e asks so (inr m) =
      let I : ℕ → Type 0 = λ i. IsIn (a_vote (Rollback i) (a_key (node_index q) life) vote.yes) (c.node (node_index p)).votes in
      let C : ℕ → Type 0 = λ d. IsIn (a_vote (Rollback vote.instance) (a_key (node_index q) d) vote.yes) (c.node (node_index p)).votes in
      subst I so.instance (subst C (so.incarnation ∙ asks) m)
  rollback b life e asks so (inl m) =
      absurd (clash b.instance (ap (λ i. c.board.begun (Check i)) (sym so.instance) ∙ begun (Check vote.instance) vote.incarnation vote.yes m) e)

  by : (f : Phase) → n.phase ≡ f → (b : Poll) (phase : Poll → Phase) → VotesSo f b phase → Counted b p vote
      → Refines s (Deliver p q) (voting_plan (phase (poll_after (counted b p vote.yes) (casting (counted b p vote.yes)))) (casting (counted b p vote.yes))) c
  by f e b phase holds so =
      let v = held-is s c is q n b alive e in
      counts-so s c is p q n vote b phases.Held checks comes alive v so
      (check b (c.node (node_index q)).life (voting-begun (peers s.scene) c inv (node_index q) (Check b.instance) v.ballot v.within) v.is.asks_in so was)
      (casting (counted b p vote.yes)) (is_due (counted b p vote.yes))
  by f e b phase rolls so =
      let v = rolling-is s c is q n b alive e in
      counts-so s c is p q n vote b phases.Rolling rollbacks comes alive v so
      (rollback b (c.node (node_index q)).life (voting-begun (peers s.scene) c inv (node_index q) (Rollback b.instance) v.ballot v.within) v.is.asks_in so was)
      (casting (counted b p vote.yes)) (is_due (counted b p vote.yes))
