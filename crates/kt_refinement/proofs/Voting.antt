-- A vote that comes and is counted, and the vote that it may make the node cast: one or two steps of the machine. And a
-- participant that votes no of itself.
-- Cited by CountsVote, GoesOn, JoinsCheck, Refining.
use Rattle.std.proofs.Common.{◌≡◌, ◌≢◌, ℕ, Bool, true, false, not, ◌||◌, cond, IsTrue, List}
use Rattle.std.proofs.Common.{[], ◌∷◌, filter, Option, Some, None, inl, inr, refl, sym, ap, subst, ◌∙◌}
use Rattle.std.specs.List.{AllByRecursion, list_any}
use Rattle.std.specs.Option.{option_map}
use Rattle.std.proofs.lemmas.Bool.{cases_eq, ne_eqb, and_parts}
use Rattle.kt_tuple.specs.declared.node.NodeId.{NodeId}
use Rattle.kt_tuple.specs.Node.{node_index, node_eq, node_eq_decides}
use Rattle.kt_vote.specs.declared.asker.Asker.{Asker}
use Rattle.kt_vote.specs.declared.vote.Vote.{Vote as RealVote}
use Rattle.kt_vote.specs.Poll.{Poll, counts, counted, is_awaited, is_on, outcome_of}
use Rattle.kt_state.specs.declared.live.Phase.{Phase}
use Rattle.kt_state.specs.declared.live.Phase.TheVariants as phases
use Rattle.kt_state.specs.Node.{Live, Alive}
use Rattle.kt_state.specs.Updating.{no_update}
use Rattle.kt_state.specs.Updating.{updated}
use Rattle.kt_state.specs.Voting.{casting, casting_to, vote_for, voted, votes}
use Rattle.kt_node.specs.Deciding.{declined_plan}
use Rattle.kt_scenario.specs.declared.step.Step.TheVariants.{Abandon}
use Rattle.kt_model.specs.State.{State as World}
use Rattle.kt_model.proofs.Shared.{IsAlive, Votes as VotesSo, holds, rolls}
use Rattle.kt_protocol.specs.Labels.{at}
use Rattle.kt_protocol.specs.Logs.{IsIn, here, there}
use Rattle.kt_protocol.specs.Machine.{Instance, Check, Rollback, Key, Ballot, Mode, Within, Vote, Mark, Node, State}
use Rattle.kt_protocol.specs.Steps as machine
use Rattle.kt_protocol.specs.Steps.{change, answering, consenting, agrees, declines}
use Rattle.kt_protocol.specs.Runs.{nothing_done, one_more}
use Rattle.kt_protocol.proofs.Shared.{at-here, at-else, a_vote, a_key}
use Rattle.kt_refinement.proofs.Mail.{QuietStep}
use Rattle.kt_refinement.proofs.Numbers.{peers}
use Rattle.kt_refinement.proofs.Represents.{asker_key, WasCast, BallotIs, Votes, PhaseIs, NodeIn, Represents}
use Rattle.kt_refinement.proofs.Frames.{cases-node, apart-index, CastSo, Refines, owner-in, nodes-at, votes-at, links-idle, leads-represents}
use Rattle.kt_refinement.proofs.Silence.{silent-to}
use Rattle.kt_refinement.proofs.Known.{alive-is, rolling-is, held-is}
use Rattle.kt_refinement.proofs.Decides.{agreed-is}

-- ---- checks and rollbacks alike

-- what the machine calls an instance in which a node votes in this phase
pub record IsKind (phase : Poll → Phase) : Type 0 where
  pub kind : ℕ → Instance
  pub into : (b : Poll) (life : ℕ) (mode : Mode) → Votes (kind b.instance) b life mode → PhaseIs (phase b) life mode
  pub cast : (of : List Vote) (q : NodeId) (v : RealVote) → IsIn (a_vote (kind v.instance) (a_key (node_index q) v.incarnation) v.yes) of → WasCast of q v

abbrev pub checks : IsKind phases.Held
checks = record { kind = Check; into = λ b life mode v. v; cast = λ of q v i. inl i }

abbrev pub rollbacks : IsKind phases.Rolling
rollbacks = record { kind = Rollback; into = λ b life mode v. v; cast = λ of q v i. inr i }

-- ---- ballots

awaited-less : (p r : NodeId) (xs : List NodeId) → r ≢ p
    → list_any (λ x. node_eq x r) xs ≡ list_any (λ x. node_eq x r) (filter (λ x. not (node_eq x p)) xs)
awaited-less p r [] d = refl
awaited-less p r (x ∷ xs) d = by (node_eq x p) refl (awaited-less p r xs d) where
  none : node_eq x p ≡ true → node_eq x r ≡ false
  none e = so (node_eq x r) refl where
    so : (b : Bool) → node_eq x r ≡ b → b ≡ false
    so true f = absurd (d (sym ((node_eq_decides x r).0 f) ∙ (node_eq_decides x p).0 e))
    so false f = refl

  by : (b : Bool) → node_eq x p ≡ b → list_any (λ y. node_eq y r) xs ≡ list_any (λ y. node_eq y r) (filter (λ y. not (node_eq y p)) xs)
      → (node_eq x r || list_any (λ y. node_eq y r) xs)
      ≡ list_any (λ y. node_eq y r) (cond (not b) (x ∷ filter (λ y. not (node_eq y p)) xs) (filter (λ y. not (node_eq y p)) xs))
  by true e rest = rw (none e) rest
  by false e rest = ap (λ b. node_eq x r || b) rest

awaited-gone : (p : NodeId) (xs : List NodeId) → list_any (λ x. node_eq x p) (filter (λ x. not (node_eq x p)) xs) ≡ false
awaited-gone p [] = refl
awaited-gone p (x ∷ xs) = by (node_eq x p) refl (awaited-gone p xs) where
  by : (b : Bool) → node_eq x p ≡ b → list_any (λ y. node_eq y p) (filter (λ y. not (node_eq y p)) xs) ≡ false
      → list_any (λ y. node_eq y p) (cond (not b) (x ∷ filter (λ y. not (node_eq y p)) xs) (filter (λ y. not (node_eq y p)) xs)) ≡ false
  by true e rest = rest
  by false e rest = rw e rest

pub counted-is : (b : Poll) (life : ℕ) (x : Ballot) (p : NodeId) (y : Bool) → BallotIs b life x
    → BallotIs (counted b p y) life (machine.counted (node_index p) y x)
counted-is b life x p y is = record {
  parent = is.parent;
  awaited = λ r. elim (cases-node r p) [
    | inl e ↦
        let P : NodeId → Type 0 = λ z. at (node_index p) false x.awaited (node_index z) ≡ is_awaited (counted b p y) z in
        subst P (sym e) (at-here (node_index p) false x.awaited ∙ sym (awaited-gone p b.awaited))
    | inr d ↦ at-else (node_index p) false x.awaited (node_index r) (apart-index r p d) ∙ is.awaited r ∙ awaited-less p r b.awaited d
  ];
  refused = ap (λ r. r || not y) is.refused;
  voted = is.voted;
  asks_in = is.asks_in;
}

pub voted-is : (b : Poll) (life : ℕ) (x : Ballot) → BallotIs b life x → BallotIs (voted b) life (record x { voted = true })
voted-is b life x is = record { parent = is.parent; awaited = is.awaited; refused = is.refused; voted = λ a e. refl; asks_in = is.asks_in }

-- ---- a node that does something else from now on

pub phase-updated : (s : World) (p : NodeId) (n : Live) (x : Node) (f : Phase) (mode : Mode) (of : List Vote) (said : List Mark)
    → NodeIn s.scene s.history s.content p (Some (Alive n)) x → PhaseIs f x.life mode
    → NodeIn s.scene s.history s.content p (Some (Alive (updated record no_update { phase = Some f } n))) record x { mode = mode; votes = of; said = said }
phase-updated s p n x f mode of said was phase = record {
  log = was.log;
  life = was.life;
  state = record {
    phase = phase;
    life = was.state.life;
    count = was.state.count;
    sent = was.state.sent;
    received = was.state.received;
    kept = was.state.kept;
  };
  perm = was.perm;
  tent = was.tent;
  lower = was.lower;
}

-- the vote that is due, if one is
pub data IsDue (b : Poll) : Option (NodeId × RealVote) → Type 0 where
  nothing : IsDue b None
  due : (parent : Asker) (agreed : Bool) → b.parent ≡ Some parent → b.voted ≡ false → outcome_of b ≡ Some agreed
      → IsDue b (Some (vote_for b.instance parent agreed))

pub is_due : (b : Poll) → IsDue b (casting b)
is_due b = by b.parent refl where
  outcome : (parent : Asker) → b.parent ≡ Some parent → b.voted ≡ false → (o : Option Bool) → outcome_of b ≡ o → IsDue b (casting_to b parent o)
  outcome parent e f None g = nothing
  outcome parent e f (Some agreed) g = due parent agreed e f g

  unless : (parent : Asker) → b.parent ≡ Some parent → (v : Bool) → b.voted ≡ v → IsDue b (Rattle.kt_state.specs.Voting.casting_unless v b parent)
  unless parent e true f = nothing
  unless parent e false f = outcome parent e f (outcome_of b) refl

  by : (o : Option Asker) → b.parent ≡ o → IsDue b (Rattle.kt_state.specs.Voting.casting_of b o)
  by None e = nothing
  by (Some parent) e = unless parent e b.voted refl

-- ---- the vote that a node casts

abbrev pub cast_node : Instance → Ballot → Key → Bool → Node → Node
cast_node i x k true n = answering i k true (consenting i x n)
cast_node i x k false n = answering i k false (machine.casting i x n)

pub casts-step : (peer : ℕ → ℕ → Bool) (c : State) (o : ℕ) (i : Instance) (b : Poll) (life : ℕ) (x : Ballot) (parent : Asker) (agreed : Bool)
    → (c.node o).mode ≡ Within i x
    → BallotIs b life x → b.parent ≡ Some parent → b.voted ≡ false → (agreed ≡ true → outcome_of b ≡ Some true)
    → QuietStep peer c (change o (cast_node i x (asker_key parent) agreed) c)
casts-step peer c o i b life x parent true within is has unvoted outcome = record {
  step = agrees o i x (asker_key parent) within (is.parent ∙ ap (option_map asker_key) has) (is.voted parent has
      ∙ unvoted) (agreed-is peer o b life x is (outcome refl));
  quiet = tt;
}
casts-step peer c o i b life x parent false within is has unvoted outcome = record {
  step = declines o i x (asker_key parent) within (is.parent ∙ ap (option_map asker_key) has) (is.voted parent has ∙ unvoted);
  quiet = tt;
}

pub cast-is : (s : World) (p : NodeId) (n : Live) (x : Node) (phase : Poll → Phase) (k : IsKind phase) (b : Poll) (ballot : Ballot) (key : Key) (agreed : Bool)
    → NodeIn s.scene s.history s.content p (Some (Alive n)) x → BallotIs b x.life ballot
    → NodeIn s.scene s.history s.content p (Some (Alive (updated record no_update { phase = Some (phase (voted b)) } n))) (cast_node
    (k.kind b.instance) ballot key agreed x)
cast-is s p n x phase k b ballot key true was is =
    phase-updated s p n x (phase (voted b)) (Within (k.kind b.instance) record ballot { voted = true }) _ _ was
    (k.into (voted b) x.life (Within (k.kind b.instance) record ballot { voted = true })
    (record { ballot = record ballot { voted = true }; within = refl; is = voted-is b x.life ballot is }))
cast-is s p n x phase k b ballot key false was is =
    phase-updated s p n x (phase (voted b)) (Within (k.kind b.instance) record ballot { voted = true }) _ _ was
    (k.into (voted b) x.life (Within (k.kind b.instance) record ballot { voted = true })
    (record { ballot = record ballot { voted = true }; within = refl; is = voted-is b x.life ballot is }))

pub cast-among : (i : Instance) (ballot : Ballot) (key : Key) (agreed : Bool) (x : Node) → IsIn (a_vote i key agreed) (cast_node i ballot key agreed x).votes
cast-among i ballot key true x = here
cast-among i ballot key false x = here

pub cast-more : (i : Instance) (ballot : Ballot) (key : Key) (agreed : Bool) (x : Node) (v : Vote) → IsIn v x.votes
    → IsIn v (cast_node i ballot key agreed x).votes
cast-more i ballot key true x v m = there m
cast-more i ballot key false x v m = there m

-- ---- a participant votes no of itself

declines-so : (s : World) (c : State) → Represents s c → (p : NodeId) (n : Live) (b : Poll) (phase : Poll → Phase) (k : IsKind phase) (parent : Asker)
    → IsAlive s p n → Votes (k.kind b.instance) b (c.node (node_index p)).life (c.node (node_index p)).mode → b.parent ≡ Some parent → b.voted ≡ false
    → Refines s (Abandon p) (declined_plan (phase (voted b)) b.instance parent) c
declines-so s c is p n b phase k parent alive votes has unvoted =
    let plan = declined_plan (phase (voted b)) b.instance parent in
    let o = node_index p in
    let i = k.kind b.instance in
    let key = asker_key parent in
    let new : Node = cast_node i votes.ballot key false (c.node o) in
    let next : State = change o (cast_node i votes.ballot key false) c in
    let last = casts-step (peers s.scene) c o i b (c.node o).life votes.ballot parent false votes.within votes.is has unvoted (λ e. absurd (cc (e))) in
    record {
      next = next;
      run = one_more nothing_done last.step;
      fresh = inl (tt, last.quiet);
      stands = leads-represents s (Abandon p) plan c next is (record {
        nodes = nodes-at s (Abandon p) plan c new is tt (λ r d. refl) (owner-in s (Abandon p) plan (Some (Alive n)) new alive
            (cast-is s p n (c.node o) phase k b votes.ballot key false (alive-is s c is p n alive) votes.is));
        board = is.board;
        links = links-idle s (Abandon p) plan c (λ x y e. absurd (cc (e))) (λ r near. silent-to r plan.send (refl, tt));
        votes = votes-at c o new (cast-more i votes.ballot key false (c.node o));
        cast =
            let X : Node → Type 0 = λ x. AllByRecursion (CastSo x.votes) plan.send in
            subst X (sym (at-here o new c.node)) (k.cast new.votes parent.node (vote_for b.instance parent false).1 here, tt);
      });
    }

pub declines_of_itself : (s : World) (c : State) → Represents s c → (p : NodeId) (n : Live) (b : Poll) (phase : Poll → Phase) (parent : Asker)
    → IsAlive s p n → VotesSo n.phase b phase → b.parent ≡ Some parent → b.voted ≡ false
    → Refines s (Abandon p) (declined_plan (phase (voted b)) b.instance parent) c
declines_of_itself s c is p n b phase parent alive votes has unvoted = by n.phase refl b phase votes has unvoted where
  by : (f : Phase) → n.phase ≡ f → (b : Poll) (phase : Poll → Phase) → VotesSo f b phase → b.parent ≡ Some parent → b.voted ≡ false
      → Refines s (Abandon p) (declined_plan (phase (voted b)) b.instance parent) c
  by f e b phase holds has unvoted = declines-so s c is p n b phases.Held checks parent alive (held-is s c is p n b alive e) has unvoted
  by f e b phase rolls has unvoted = declines-so s c is p n b phases.Rolling rollbacks parent alive (rolling-is s c is p n b alive e) has unvoted

-- ---- a vote comes

-- what is known of a vote that is counted
pub record Counted (b : Poll) (p : NodeId) (vote : RealVote) : Type 0 where
  pub instance : vote.instance ≡ b.instance
  pub incarnation : vote.incarnation ≡ b.incarnation
  pub awaited : is_awaited b p ≡ true

same-number : (m n : ℕ) → Rattle.std.specs.Prelude.nat_eq m n ≡ true → m ≡ n
same-number m n e = elim (cases_eq m n) [ inl same ↦ same | inr d ↦ absurd (cc (e, ne_eqb m n d)) ]

pub counted-so : (b : Poll) (p : NodeId) (vote : RealVote) → IsTrue (counts b p vote) → Counted b p vote
counted-so b p vote e =
    let all = and_parts (is_on b vote) (is_awaited b p) e in
    let on = and_parts (Rattle.std.specs.Prelude.nat_eq vote.instance b.instance) (Rattle.std.specs.Prelude.nat_eq vote.incarnation b.incarnation) all.0 in
    record { instance = same-number vote.instance b.instance on.0; incarnation = same-number vote.incarnation b.incarnation on.1; awaited = all.1 }
