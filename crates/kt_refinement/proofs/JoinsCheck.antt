-- A node that is up joins a check, and asks its cohort: the machine joins. Where the cohort is empty the node votes yes at
-- once: the machine agrees.
-- Cited by Forcing, Refining.
use Rattle.std.proofs.Common.{◌≡◌, Bool, true, false, IsTrue, List, [], ◌∷◌, ◌++◌, Option, Some, None, refl, sym, ap, subst, ◌∙◌, append-nil, inl}
use Rattle.std.specs.Prelude.{if◌then◌else◌}
use Rattle.std.specs.List.{AllByRecursion}
use Rattle.kt_tuple.specs.declared.node.NodeId.{NodeId}
use Rattle.kt_tuple.specs.Node.{node_index, node_eq}
use Rattle.kt_history.specs.Log.{log}
use Rattle.kt_store.specs.declared.rows.Verdict.{Verdict as RealVerdict}
use Rattle.kt_store.specs.Content.{row_of, permanent_header, verdict_of}
use Rattle.kt_vote.specs.declared.vote.Vote.{Vote as RealVote}
use Rattle.kt_vote.specs.Poll.{Poll, asking_poll}
use Rattle.kt_state.specs.declared.message.Ask.{Ask as RealAsk}
use Rattle.kt_state.specs.declared.message.Message.{Message as RealMessage}
use Rattle.kt_state.specs.declared.message.Message.TheVariants as messages
use Rattle.kt_state.specs.declared.live.Phase.TheVariants as phases
use Rattle.kt_state.specs.declared.change.Change.TheVariants as changes
use Rattle.kt_state.specs.declared.plan.Plan.{Plan}
use Rattle.kt_state.specs.declared.plan.Write.TheVariants as writes
use Rattle.kt_node.specs.declared.reaction.Reaction.{Reaction}
use Rattle.kt_node.specs.declared.reaction.Reaction.TheVariants as reactions
use Rattle.kt_state.specs.Labels.{up_to}
use Rattle.kt_state.specs.Node.{Live, Alive, node_number}
use Rattle.kt_state.specs.Updating.{no_update}
use Rattle.kt_state.specs.Stored.{is_undecided, sent_in}
use Rattle.kt_state.specs.Voting.{casting, poll_after, voted, vote_for, votes}
use Rattle.kt_state.specs.Asking.{check_asks}
use Rattle.kt_node.specs.Joining.{asker_of, is_in_cohort, checkpoint_now, join_check_plan}
use Rattle.kt_state.specs.Updating.{updated}
use Rattle.kt_node.specs.Arrivals.{check_in, check_reaction}
use Rattle.kt_scenario.specs.declared.step.Step.TheVariants.{Deliver}
use Rattle.kt_model.specs.State.{State as World, node, view}
use Rattle.kt_model.specs.StoreReads.{store_reads, tentative_in}
use Rattle.kt_model.specs.Effect.{applied}
use Rattle.kt_model.specs.Writing.{content_after}
use Rattle.kt_model.specs.auxiliary.Ready.{AreNeighbours}
use Rattle.kt_logs.proofs.Shared.{all-append}
use Rattle.kt_model.proofs.Shared.{IsAlive, Comes, backed-in, Holds, neighbour-node, neighbours-turned}
use Rattle.kt_protocol.specs.Labels.{Under, at}
use Rattle.kt_protocol.specs.Logs.{IsIn}
use Rattle.kt_protocol.specs.Machine.{Check, Ballot, Within, Message, Mode, Mark, Vote, Node, State}
use Rattle.kt_protocol.specs.Steps.{joining, sifting, asking, joins, MustJoin, change, push, pull}
use Rattle.kt_protocol.specs.Runs.{nothing_done, one_more}
use Rattle.kt_protocol.proofs.Shared.{at-here, up_to-false, a_key}
use Rattle.kt_refinement.proofs.Mail.{QuietStep}
use Rattle.kt_refinement.proofs.Numbers.{peers, label_of}
use Rattle.kt_refinement.proofs.Represents.{asker_key, carried, BallotIs, NodeIs, NodeIn, PhaseIs, Stands, Represents}
use Rattle.kt_refinement.proofs.Links.{to}
use Rattle.kt_refinement.proofs.Cohorts.{chosen, cohort, chosen-cohort}
use Rattle.kt_refinement.proofs.Frames.{CastSo, LinksLead, Refines, owner-in, nodes-at, votes-at, delivered, leads-represents, carried-append}
use Rattle.kt_refinement.proofs.Silence.{silent-to}
use Rattle.kt_refinement.proofs.Known.{alive-is, up-is, near-is, comes-is, check-open}
use Rattle.kt_refinement.proofs.Decides.{opened-is}
use Rattle.kt_refinement.proofs.Denies.{twice}
use Rattle.kt_refinement.proofs.RollsBack.{stored-stands}
use Rattle.kt_refinement.proofs.Checking.{taken-stands, cohort-is, check-asks-to, check-asks-cast}
use Rattle.kt_refinement.proofs.Voting.{IsDue, nothing, due, is_due, checks, cast_node, casts-step, cast-among, cast-more, voted-is}
use Rattle.kt_refinement.proofs.Answering.{keeps-all, asked-open}
use Rattle.kt_refinement.proofs.CountsVote.{own-silent}

-- ---- why the node joins

-- the label is above what the permanent checkpoint sent
pub joins-above : (b c : Bool) (r : Reaction) → (if b then (if c then reactions.Says true else r) else reactions.Says false) ≡ reactions.Joins → c ≡ false
joins-above true true r e = absurd (cc (e))
joins-above true false r e = refl
joins-above false c r e = absurd (cc (e))

-- ---- the plan

-- the ballot of who joins
abbrev joined_poll : World → Live → NodeId → NodeId → RealAsk → Poll
joined_poll s n p q ask =
    asking_poll ask.instance n.incarnation (Some (asker_of p ask)) (chosen s.scene q (is_in_cohort (permanent_header s.content q) n))

-- the plan, with the vote that is cast at once
abbrev plan_with : World → Live → NodeId → NodeId → RealAsk → Option (NodeId × RealVote) → Plan
plan_with s n p q ask own =
    let b = joined_poll s n p q ask in record {
      change = changes.Update record no_update { phase = Some (phases.Held (poll_after b own)) };
      send = check_asks b.instance n b.asked ++ votes own;
      note = None;
      write = Some (writes.PutTentative ask.instance (checkpoint_now (view s q) n));
    }

-- ---- what is sent

to-append : (r : NodeId) (xs ys : List (NodeId × RealMessage)) → to r (xs ++ ys) ≡ to r xs ++ to r ys
unfolding to
to-append r [] ys = refl
to-append r (x ∷ xs) ys = by (node_eq x.0 r) (to-append r xs ys) where
  by : (b : Bool) → to r (xs ++ ys) ≡ to r xs ++ to r ys
      → (if b then x.1 ∷ to r (xs ++ ys) else to r (xs ++ ys)) ≡ (if b then x.1 ∷ to r xs else to r xs) ++ to r ys
  by true rest = ap (λ l. x.1 ∷ l) rest
  by false rest = rest

-- a vote is nothing to the machine's links
asks-alone : (r : NodeId) (asks : List (NodeId × RealMessage)) (own : Option (NodeId × RealVote)) → carried (to r (asks ++ votes own)) ≡ carried (to r asks)
asks-alone r asks own =
    ap carried (to-append r asks (votes own)) ∙ carried-append (to r asks) (to r (votes own))
    ∙ ap (λ l. carried (to r asks) ++ l) (silent-to r (votes own) (own-silent own)) ∙ append-nil (carried (to r asks))

-- ---- the node

-- the machine's node behind it
abbrev joined : World → State → NodeId → NodeId → Live → RealAsk → Node
joined s c p q n ask =
    joining (Check ask.instance) (Some (a_key (node_index p) ask.incarnation)) (cohort s.scene q (is_in_cohort (permanent_header s.content q) n))
    (sifting (Check ask.instance) (node_index p) (label_of ask.label) (c.node (node_index q)))

abbrev joined_ballot : World → NodeId → NodeId → Live → RealAsk → Ballot
joined_ballot s p q n ask = record {
  parent = Some (a_key (node_index p) ask.incarnation);
  awaited = cohort s.scene q (is_in_cohort (permanent_header s.content q) n);
  refused = false;
  voted = false;
}

ballot-is : (s : World) (c : State) → Represents s c → (p q : NodeId) (n : Live) (ask : RealAsk) → AreNeighbours s.scene p q → IsAlive s q n
    → BallotIs (joined_poll s n p q ask) (c.node (node_index q)).life (joined_ballot s p q n ask)
ballot-is s c is p q n ask near alive = record {
  parent = refl;
  awaited = λ r. chosen-cohort s.scene q (is_in_cohort (permanent_header s.content q) n) r (neighbour-node s.scene p q near);
  refused = refl;
  voted = λ a e. refl;
  asks_in = (alive-is s c is q n alive).state.life;
}

-- it stands for the real one, held with any ballot of this check
held-is-node : (s : World) (c : State) → Represents s c → Holds s → (p q : NodeId) (n : Live) (ask : RealAsk) → IsAlive s q n → n.phase ≡ phases.Up
    → IsTrue (is_undecided (verdict_of s.content ask.instance))
    → (b : Poll) (mode : Mode) (of : List Vote) (said : List Mark) → PhaseIs (phases.Held b) (c.node (node_index q)).life mode
    → NodeIs s.scene s.history q (log s.history q) (Some (Alive (updated record no_update { phase = Some (phases.Held b) } n)))
    (record (row_of s.content q) { tentative = Some record { instance = ask.instance; checkpoint = checkpoint_now (view s q) n } })
    (verdict_of s.content ask.instance) (record (joined s c p q n ask) { mode = mode; votes = of; said = said })
held-is-node s c is h p q n ask alive up opened b mode of said phase = subst Now (sym (opened-is (verdict_of s.content ask.instance) opened)) (record {
  log = was.log;
  life = was.life;
  state = record {
    phase = phase;
    life = was.state.life;
    count = was.state.count;
    sent = was.state.sent;
    received = was.state.received;
    kept = keeps-all s c is p q n ask alive;
  };
  perm = stored-stands s q (log s.history q) (c.node (node_index q)).perm none was.perm;
  tent = record {
    instance = refl;
    whole = refl;
    stands = taken-stands s.scene s.history q n (c.node (node_index q)).log (view s q).acts was.log was.state.sent was.state.received;
  };
  lower = was.lower;
}) where
  was : NodeIn s.scene s.history s.content q (Some (Alive n)) (c.node (node_index q))
  was = alive-is s c is q n alive

  none : (row_of s.content q).tentative ≡ None
  none = backed-in s h.backed q n phases.Up alive up

  Now : Option RealVerdict → Type 0
  Now v = NodeIs s.scene s.history q (log s.history q) (Some (Alive (updated record no_update { phase = Some (phases.Held b) } n)))
      (record (row_of s.content q) { tentative = Some record { instance = ask.instance; checkpoint = checkpoint_now (view s q) n } })
      v (record (joined s c p q n ask) { mode = mode; votes = of; said = said })

-- ---- the machine's steps

abbrev behind : World → State → (p q : NodeId) → Live → RealAsk → List Message → State
behind s c p q n ask rest =
    let chooses = is_in_cohort (permanent_header s.content q) n in
    change (node_index q)
    (λ x. joining (Check ask.instance) (Some (a_key (node_index p) ask.incarnation)) (cohort s.scene q chooses)
    (sifting (Check ask.instance) (node_index p) (label_of ask.label) x))
    (push (node_index q) (asking (Check ask.instance) (cohort s.scene q chooses) (c.node (node_index q))) (pull (node_index p) (node_index q) rest c))

-- what is known where it joins
record Joins (s : World) (c : State) (p q : NodeId) (n : Live) (ask : RealAsk) : Type 0 where
  comes : Comes s p q (messages.CheckAsk ask)
  alive : IsAlive s q n
  up : n.phase ≡ phases.Up
  opened : IsTrue (is_undecided (verdict_of s.content ask.instance))
  above : up_to ask.label (sent_in (permanent_header s.content q) (node_number p)) ≡ false

pub stored-is : (s : World) (c : State) → Represents s c → Holds s → (q : NodeId) (n : Live) → IsAlive s q n → n.phase ≡ phases.Up
    → Stands s.scene s.history q (log s.history q) (row_of s.content q).permanent (c.node (node_index q)).perm
stored-is s c is h q n alive up =
    stored-stands s q (log s.history q) (c.node (node_index q)).perm (backed-in s h.backed q n phases.Up alive up) (is.nodes q).perm

joins-step : (s : World) (c : State) → Represents s c → Holds s → (p q : NodeId) (n : Live) (ask : RealAsk) → (j : Joins s c p q n ask)
    → QuietStep (peers s.scene) c (behind s c p q n ask (carried j.comes.later))
joins-step s c is h p q n ask j =
    let stored = stored-is s c is h q n j.alive j.up in
    let must : MustJoin (Check ask.instance) (c.node (node_index q)) (node_index p) (label_of ask.label) =
    subst (λ l. Under l (label_of ask.label)) (stored.sent p (neighbours-turned s.scene p q j.comes.neighbours))
    (up_to-false (label_of ask.label) (label_of (sent_in (permanent_header s.content q) (node_number p))) j.above) in
    record {
      step = joins (node_index q) (node_index p) (Check ask.instance) (label_of ask.label) ask.incarnation (carried j.comes.later)
          (cohort s.scene q (is_in_cohort (permanent_header s.content q) n))
          (near-is s p q j.comes.neighbours) (comes-is s c is p q (messages.CheckAsk ask) j.comes) (up-is s c is q n j.alive j.up)
          (check-open s c is ask.instance j.opened) must
          (cohort-is s q n (permanent_header s.content q) ask.instance (c.node (node_index q)) (alive-is s c is q n j.alive).state.received stored.received);
      quiet = tt;
    }

joins-links : (s : World) (c : State) → Represents s c → (p q : NodeId) (n : Live) (ask : RealAsk) → (j : Joins s c p q n ask)
    → (own : Option (NodeId × RealVote))
    → LinksLead s (Deliver p q) (plan_with s n p q ask own) c (behind s c p q n ask (carried j.comes.later)).link
joins-links s c is p q n ask j own =
    let permanent = permanent_header s.content q in
    let was = alive-is s c is q n j.alive in
    delivered s p q (plan_with s n p q ask own) c (messages.CheckAsk ask)
    (asking (Check ask.instance) (cohort s.scene q (is_in_cohort permanent n)) (c.node (node_index q))) is j.comes
    (λ r near. check-asks-to s q r n permanent ask.instance (c.node (node_index q)) near was.state.received was.state.life
    ∙ sym (asks-alone r (check_asks ask.instance n (chosen s.scene q (is_in_cohort permanent n))) own))

joins-cast : (s : World) (n : Live) (p q : NodeId) (ask : RealAsk) (own : Option (NodeId × RealVote)) (of : List Vote)
    → AllByRecursion (CastSo of) (votes own) → AllByRecursion (CastSo of) (plan_with s n p q ask own).send
joins-cast s n p q ask own of cast =
    let asked = chosen s.scene q (is_in_cohort (permanent_header s.content q) n) in
    all-append (CastSo of) (check_asks ask.instance n asked) (votes own) (check-asks-cast of ask.instance n asked) cast

joins-so : (s : World) (c : State) → Represents s c → Holds s → (p q : NodeId) (n : Live) (ask : RealAsk) → Joins s c p q n ask
    → (own : Option (NodeId × RealVote)) → IsDue (joined_poll s n p q ask) own → Refines s (Deliver p q) (plan_with s n p q ask own) c
joins-so s c is h p q n ask j own nothing =
    let o = node_index q in
    let plan = plan_with s n p q ask None in
    let new : Node = joined s c p q n ask in
    let next : State = behind s c p q n ask (carried j.comes.later) in
    record {
      next = next;
      run = one_more nothing_done (joins-step s c is h p q n ask j).step;
      fresh = inl (tt, (joins-step s c is h p q n ask j).quiet);
      stands = leads-represents s (Deliver p q) plan c next is (record {
        nodes = nodes-at s (Deliver p q) plan c new is tt (λ r d. refl) (owner-in s (Deliver p q) plan (Some (Alive n)) new j.alive
            (held-is-node s c is h p q n ask j.alive j.up j.opened (joined_poll s n p q ask)
            (Within (Check ask.instance) (joined_ballot s p q n ask)) (c.node o).votes (c.node o).said
            (record {
              ballot = joined_ballot s p q n ask;
              within = refl;
              is = ballot-is s c is p q n ask j.comes.neighbours j.alive;
            })));
        board = is.board;
        links = joins-links s c is p q n ask j None;
        votes = votes-at c o new (λ v i. i);
        cast = joins-cast s n p q ask None (at o new c.node o).votes tt;
      });
    }
joins-so s c is h p q n ask j own (due parent agreed has unvoted outcome) =
    let o = node_index q in
    let b = joined_poll s n p q ask in
    let vote = vote_for b.instance parent agreed in
    let plan = plan_with s n p q ask (Some vote) in
    let ballot : Ballot = joined_ballot s p q n ask in
    let key = asker_key parent in
    let first : Node = joined s c p q n ask in
    let new : Node = cast_node (Check ask.instance) ballot key agreed first in
    let middle : State = behind s c p q n ask (carried j.comes.later) in
    let next : State = change o (cast_node (Check ask.instance) ballot key agreed) middle in
    let is_ballot = ballot-is s c is p q n ask j.comes.neighbours j.alive in
    let last =
    casts-step (peers s.scene) middle o (Check ask.instance) b (c.node o).life ballot parent agreed
    (ap (λ (x : Node). x.mode) (at-here o first c.node)) is_ballot has unvoted (λ e. outcome ∙ ap Some e) in
    record {
      next = next;
      run = one_more (one_more nothing_done (joins-step s c is h p q n ask j).step) last.step;
      fresh = inl ((tt, (joins-step s c is h p q n ask j).quiet), last.quiet);
      stands = leads-represents s (Deliver p q) plan c next is (record {
        nodes = λ r.
            let X : Node → Type 0 =
            λ x. NodeIn s.scene s.history (content_after q plan.write s.content) r (node (applied s (Deliver p q) plan) r) x in
            subst X (sym (twice o (cast_node (Check ask.instance) ballot key agreed) first c.node (node_index r)))
            (nodes-at s (Deliver p q) plan c new is tt (λ k d. refl) (owner-in s (Deliver p q) plan (Some (Alive n)) new j.alive
            (held_voted agreed key ballot is_ballot)) r);
        board = is.board;
        links = joins-links s c is p q n ask j (Some vote);
        votes = λ m w l.
            let X : Node → Type 0 = λ x. IsIn w x.votes in
            subst X (sym (twice o (cast_node (Check ask.instance) ballot key agreed) first c.node m))
            (votes-at c o new (cast-more (Check ask.instance) ballot key agreed first) m w l);
        cast =
            let X : Node → Type 0 = λ x. AllByRecursion (CastSo x.votes) plan.send in
            subst X (sym (twice o (cast_node (Check ask.instance) ballot key agreed) first c.node o ∙ at-here o new c.node))
            (joins-cast s n p q ask (Some vote) new.votes
            (checks.cast new.votes parent.node vote.1 (cast-among (Check ask.instance) ballot key agreed first), tt));
      });
    }
  where
    -- it has voted at once
    held_voted : (agreed : Bool) (key : Rattle.kt_protocol.specs.Machine.Key) (ballot : Ballot)
        → BallotIs (joined_poll s n p q ask) (c.node (node_index q)).life ballot
        → NodeIs s.scene s.history q (log s.history q)
        (Some (Alive (updated record no_update { phase = Some (phases.Held (voted (joined_poll s n p q ask))) } n)))
        (record (row_of s.content q) { tentative = Some record { instance = ask.instance; checkpoint = checkpoint_now (view s q) n } })
        (verdict_of s.content ask.instance) (cast_node (Check ask.instance) ballot key agreed (joined s c p q n ask))
    held_voted true key ballot of =
        held-is-node s c is h p q n ask j.alive j.up j.opened (voted (joined_poll s n p q ask)) (Within (Check ask.instance) record ballot { voted = true }) _ _
        (record {
          ballot = record ballot { voted = true };
          within = refl;
          is = voted-is (joined_poll s n p q ask) (c.node (node_index q)).life ballot of;
        })
    held_voted false key ballot of =
        held-is-node s c is h p q n ask j.alive j.up j.opened (voted (joined_poll s n p q ask)) (Within (Check ask.instance) record ballot { voted = true }) _ _
        (record {
          ballot = record ballot { voted = true };
          within = refl;
          is = voted-is (joined_poll s n p q ask) (c.node (node_index q)).life ballot of;
        })

-- ---- the leaf

pub joins_check : (s : World) (c : State) → Represents s c → Holds s → (p q : NodeId) (n : Live) (ask : RealAsk) → Comes s p q (messages.CheckAsk ask)
    → IsAlive s q n → n.phase ≡ phases.Up → IsTrue (is_undecided (store_reads s (Deliver p q)).verdict)
    → check_reaction n p ask (store_reads s (Deliver p q)).verdict (store_reads s (Deliver p q)).permanent (store_reads s (Deliver p q)).tentative
    ≡ reactions.Joins
    → Refines s (Deliver p q) (join_check_plan (view s q) n p ask (store_reads s (Deliver p q)).permanent) c
joins_check s c is h p q n ask comes alive up undecided reacts =
    joins-so s c is h p q n ask
    (record {
      comes = comes;
      alive = alive;
      up = up;
      opened = asked-open s p q (messages.CheckAsk ask) ask.instance comes refl undecided;
      above = joins-above (is_undecided (store_reads s (Deliver p q)).verdict) (up_to ask.label (sent_in (permanent_header s.content q) (node_number p)))
          (check_in n p ask (tentative_in s.content q) n.phase) reacts;
    })
    (casting (joined_poll s n p q ask)) (is_due (joined_poll s n p q ask))
