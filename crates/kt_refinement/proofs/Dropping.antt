-- What comes and is not heard: the machine drops an underlying message and ignores an ask; of a vote or a verdict it sees
-- nothing.
-- Cited by Refining.
use Rattle.std.proofs.Common.{◌≡◌, ℕ, List, [], ◌∷◌, ◌++◌, Option, Some, None, refl, sym, ap, subst, inl}
use Rattle.std.specs.Option.{option_map}
use Rattle.kt_tuple.specs.declared.node.NodeId.{NodeId}
use Rattle.kt_tuple.specs.Node.{node_index}
use Rattle.kt_state.specs.declared.message.Ask.{Ask as RealAsk}
use Rattle.kt_state.specs.declared.message.AppMessage.{AppMessage as RealAppMessage}
use Rattle.kt_state.specs.declared.message.Message.{Message as RealMessage}
use Rattle.kt_state.specs.declared.message.Message.TheVariants as messages
use Rattle.kt_state.specs.declared.change.Change.TheVariants as changes
use Rattle.kt_state.specs.Node.{Node as RealNode, Down as IsDown}
use Rattle.kt_state.specs.Plan.{empty_plan}
use Rattle.kt_state.specs.Updating.{changed}
use Rattle.kt_scenario.specs.declared.step.Step.TheVariants.{Deliver}
use Rattle.kt_model.specs.State.{State as World, node}
use Rattle.kt_model.specs.Effect.{applied}
use Rattle.kt_model.proofs.Shared.{IsDroppedBy, Comes}
use Rattle.kt_model.proofs.Plans as plans
use Rattle.kt_model.proofs.Shared.{has_fallen, Holds, neighbour-node}
use Rattle.kt_protocol.specs.Labels.{Label, at}
use Rattle.kt_protocol.specs.Machine.{Instance, Check, Rollback, Ask, AppMessage, Node, State, Message}
use Rattle.kt_protocol.specs.Steps as machine
use Rattle.kt_protocol.specs.Steps.{sieve, sieved, sifting, ignores, change, pull}
use Rattle.kt_protocol.specs.Runs.{nothing_done, one_more}
use Rattle.kt_protocol.proofs.Shared.{at-both}
use Rattle.kt_refinement.proofs.Numbers.{label_of}
use Rattle.kt_refinement.proofs.Represents.{app_of, carried, carried_one, FallenIs, NodeIn, Represents}
use Rattle.kt_refinement.proofs.Frames.{Refines, owner-in, nodes-at, votes-at, delivered-quietly, leads-represents}
use Rattle.kt_refinement.proofs.Silence.{silent-to, links-silent}
use Rattle.kt_refinement.proofs.Known.{near-is, comes-is}

-- ---- nobody changes

stays : (real : Option RealNode) → option_map (changed changes.Stay) real ≡ real
stays None = refl
stays (Some x) = refl

own-stays : (k : ℕ) (f : ℕ → Node) (m : ℕ) → at k (f k) f m ≡ f m
own-stays k f m = at-both k (f k) f m (λ (x : Node). x ≡ f m) (λ e. ap f (sym e)) (λ ne. refl)

-- the owner, whose node is what it was
own-in : (s : World) (p q : NodeId) (x : Node) → NodeIn s.scene s.history s.content q (node s q) x
    → NodeIn s.scene s.history s.content q (node (applied s (Deliver p q) empty_plan) q) x
own-in s p q x is =
    owner-in s (Deliver p q) empty_plan (node s q) x refl
    (subst (λ r. NodeIn s.scene s.history s.content q r x) (sym (stays (node s q))) is)

nodes-stay : (s : World) (p q : NodeId) (c : State) → Represents s c → (r : NodeId)
    → NodeIn s.scene s.history s.content r (node (applied s (Deliver p q) empty_plan) r) (c.node (node_index r))
nodes-stay s p q c is r =
    let o = node_index q in
    let X : Node → Type 0 = λ x. NodeIn s.scene s.history s.content r (node (applied s (Deliver p q) empty_plan) r) x in
    subst X (own-stays o c.node (node_index r))
    (nodes-at s (Deliver p q) empty_plan c (c.node o) is tt (λ k d. refl) (own-in s p q (c.node o) (is.nodes q)) r)

-- ---- an underlying message, a vote, a verdict

drops-app : (s : World) (c : State) → Represents s c → (p q : NodeId) (app : RealAppMessage) → Comes s p q (messages.App app)
    → Refines s (Deliver p q) empty_plan c
drops-app s c is p q app comes = record {
  next = pull (node_index p) (node_index q) (carried comes.later) c;
  run = one_more nothing_done
      (machine.drops (node_index q) (node_index p) (app_of app) (carried comes.later) (near-is s p q comes.neighbours)
      (comes-is s c is p q (messages.App app) comes));
  fresh = inl (tt, tt);
  stands = leads-represents s (Deliver p q) empty_plan c (pull (node_index p) (node_index q) (carried comes.later) c) is (record {
    nodes = nodes-stay s p q c is;
    board = is.board;
    links = delivered-quietly s p q empty_plan c (messages.App app) is comes (λ r near. silent-to r [] tt);
    votes = λ k v m. m;
    cast = tt;
  });
}

drops-silent : (s : World) (c : State) → Represents s c → (p q : NodeId) (m : RealMessage) → Comes s p q m → carried_one m ≡ []
    → Refines s (Deliver p q) empty_plan c
drops-silent s c is p q m comes none = record {
  next = c;
  run = nothing_done;
  fresh = inl tt;
  stands = leads-represents s (Deliver p q) empty_plan c c is (record {
    nodes = nodes-stay s p q c is;
    board = is.board;
    links = links-silent s p q empty_plan c m is comes none tt;
    votes = λ k v m. m;
    cast = tt;
  });
}

-- ---- an ask

-- of nothing kept nothing is dropped
sieved-none : (i : Instance) (l : Label) (ks : List AppMessage) → ks ≡ [] → sieved i l ks ≡ []
unfolding sieve
sieved-none (Check k) l ks e = e
sieved-none (Rollback k) l ks e = ap (sieve l) e

fallen-sifted : (i : Instance) (k : ℕ) (l : Label) (x : Node) → FallenIs x → FallenIs (sifting i k l x)
fallen-sifted i k l x is = record {
  mode = is.mode;
  kept = λ m. at-both k (sieved i l (x.kept k)) x.kept m (λ (ks : List AppMessage). ks ≡ []) (λ e. sieved-none i l (x.kept k) (is.kept k)) (λ ne. is.kept m);
}

down-sifted : (s : World) (q : NodeId) (i : Instance) (k : ℕ) (l : Label) (x : Node) → NodeIn s.scene s.history s.content q (Some IsDown) x
    → NodeIn s.scene s.history s.content q (Some IsDown) (sifting i k l x)
down-sifted s q i k l x was = record {
  log = was.log;
  life = was.life;
  state = fallen-sifted i k l x was.state;
  perm = was.perm;
  tent = was.tent;
  lower = was.lower;
}

drops-ask : (s : World) (c : State) → Represents s c → Holds s → (p q : NodeId) (m : RealMessage) (i : Instance) (ask : RealAsk) → (comes : Comes s p q m)
    → carried_one m ≡ Ask i (label_of ask.label) ask.incarnation ∷ [] → plans.IsDown s q → Refines s (Deliver p q) empty_plan c
drops-ask s c is h p q m i ask comes asks down =
    let o = node_index q in
    let x = node_index p in
    let l = label_of ask.label in
    let rest = carried comes.later in
    let fallen : node s q ≡ Some IsDown = has_fallen s h.ready q (neighbour-node s.scene p q comes.neighbours) down in
    let was = subst (λ r. NodeIn s.scene s.history s.content q r (c.node o)) fallen (is.nodes q) in
    let new : Node = sifting i x l (c.node o) in
    let next : State = change o (sifting i x l) (pull x o rest c) in
    let front : c.link x o ≡ Ask i l ask.incarnation ∷ rest =
    subst (λ (ms : List Message). c.link x o ≡ ms ++ rest) asks (comes-is s c is p q m comes) in
    record {
      next = next;
      run = one_more nothing_done (ignores o x i l ask.incarnation rest (near-is s p q comes.neighbours) front);
      fresh = inl (tt, tt);
      stands = leads-represents s (Deliver p q) empty_plan c next is (record {
        nodes = nodes-at s (Deliver p q) empty_plan c new is tt (λ r d. refl)
            (owner-in s (Deliver p q) empty_plan (Some IsDown) new fallen (down-sifted s q i x l (c.node o) was));
        board = is.board;
        links = delivered-quietly s p q empty_plan c m is comes (λ r near. silent-to r [] tt);
        votes = votes-at c o new (λ v k. k);
        cast = tt;
      });
    }

pub drops : (s : World) (c : State) → Represents s c → Holds s → (p q : NodeId) (message : RealMessage) → Comes s p q message → IsDroppedBy s q message
    → Refines s (Deliver p q) empty_plan c
drops s c is h p q (messages.App app) comes may = drops-app s c is p q app comes
drops s c is h p q (messages.CheckAsk ask) comes may = drops-ask s c is h p q (messages.CheckAsk ask) (Check ask.instance) ask comes refl may
drops s c is h p q (messages.RollAsk ask) comes may = drops-ask s c is h p q (messages.RollAsk ask) (Rollback ask.instance) ask comes refl may
drops s c is h p q (messages.Vote vote) comes may = drops-silent s c is p q (messages.Vote vote) comes refl
drops s c is h p q (messages.Verdict instance agreed) comes may = drops-silent s c is p q (messages.Verdict instance agreed) comes refl
