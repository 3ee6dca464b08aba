-- A node that is up joins a rollback, and asks all its neighbours: the machine joins.
-- Cited by Refining, Restarts.
use Rattle.std.proofs.Common.{◌≡◌, ℕ, Bool, true, false, ◌&&◌, IsTrue, List, [], ◌∷◌, ◌++◌, inl}
use Rattle.std.proofs.Common.{map, Option, Some, None, refl, sym, ap, subst, ◌∙◌, append-nil}
use Rattle.std.specs.List.{AllByRecursion}
use Rattle.kt_tuple.specs.declared.node.NodeId.{NodeId}
use Rattle.kt_tuple.specs.Node.{node_index}
use Rattle.kt_ckpt.specs.declared.header.CkptHeader.{CkptHeader}
use Rattle.kt_history.specs.Log.{log}
use Rattle.kt_store.specs.declared.rows.Tentative.{Tentative}
use Rattle.kt_model.specs.Cut.{permanent_by}
use Rattle.kt_store.specs.Content.{row_of, permanent_header, verdict_of, verdict_on}
use Rattle.kt_vote.specs.declared.vote.Vote.{Vote as RealVote}
use Rattle.kt_state.specs.declared.message.Ask.{Ask as RealAsk}
use Rattle.kt_state.specs.declared.message.Message.{Message as RealMessage}
use Rattle.kt_state.specs.declared.message.Message.TheVariants as messages
use Rattle.kt_state.specs.declared.live.Phase.TheVariants as phases
use Rattle.kt_state.specs.declared.change.KeptChange.TheVariants as keeps
use Rattle.kt_state.specs.declared.change.Change.TheVariants as changes
use Rattle.kt_state.specs.declared.plan.Plan.{Plan}
use Rattle.kt_state.specs.Labels.{label_at, up_to}
use Rattle.kt_state.specs.Node.{Live, Alive, neighbours, node_number}
use Rattle.kt_state.specs.Updating.{no_update}
use Rattle.kt_state.specs.Stored.{is_undecided, sent_in}
use Rattle.kt_state.specs.Voting.{casting, casting_to, poll_after, votes}
use Rattle.kt_state.specs.Asking.{roll_asks}
use Rattle.kt_node.specs.Joining.{asker_of, roller, join_rollback_plan}
use Rattle.kt_state.specs.Updating.{updated}
use Rattle.kt_scenario.specs.declared.step.Step.TheVariants.{Deliver}
use Rattle.kt_model.specs.State.{State as World, role_of, view}
use Rattle.kt_model.specs.StoreReads.{store_reads}
use Rattle.kt_model.specs.auxiliary.Ready.{AreNeighbours}
use Rattle.kt_logs.proofs.Shared.{all-append}
use Rattle.kt_model.proofs.Shared.{IsAlive, Comes, backed-in, Holds, some_peers, neighbour-node, neighbours-turned}
use Rattle.kt_protocol.specs.Labels.{at}
use Rattle.kt_protocol.specs.Logs.{top_sent}
use Rattle.kt_protocol.specs.Machine.{Rollback, Node, State, Vote, Ask}
use Rattle.kt_protocol.specs.Steps.{joining, sifting, asking, joins, MustJoin, IsCohort, change, push, pull}
use Rattle.kt_protocol.specs.Runs.{nothing_done, one_more}
use Rattle.kt_protocol.proofs.Shared.{a_key, up_to-false}
use Rattle.kt_refinement.proofs.Numbers.{peers, label_of}
use Rattle.kt_refinement.proofs.Represents.{carried, NodeIn, Stands, Represents}
use Rattle.kt_refinement.proofs.Links.{to}
use Rattle.kt_refinement.proofs.Cohorts.{addressed, cohort, asked-once, chosen-cohort}
use Rattle.kt_refinement.proofs.Frames.{CastSo, Refines, owner-in, nodes-at, votes-at, delivered, leads-represents}
use Rattle.kt_refinement.proofs.Answering.{keeps-sieved, asked-open}
use Rattle.kt_refinement.proofs.Known.{alive-is, up-is, near-is, comes-is, rollback-open, waits-for, all-chosen}

-- all neighbours
abbrev pub everyone : NodeId → Bool
everyone x = true

-- the plan, with the vote that is cast at once
abbrev plan_with : World → Live → NodeId → NodeId → RealAsk → Option CkptHeader → Option (NodeId × RealVote) → Plan
plan_with s n p q ask permanent vote =
    let b = roller (role_of s.scene q) n p ask in record {
      change = changes.Update record no_update { kept = keeps.Sieve p ask.label; phase = Some (phases.Rolling (poll_after b vote)) };
      send = roll_asks b.instance n.incarnation (sent_in permanent) b.asked ++ votes vote;
      note = None;
      write = None;
    }

no-vote : (s : World) → Holds s → (n : Live) (p q : NodeId) (ask : RealAsk) → casting (roller (role_of s.scene q) n p ask) ≡ None
no-vote s h n p q ask =
    let role = role_of s.scene q in
    ap (casting_to (roller role n p ask) (asker_of p ask)) (waits-for role.id role.peers (some_peers s.scene h.ready.scene q))

pub roll-asks-cast : (votes : List Vote) (instance incarnation : ℕ) (label : ℕ → Rattle.kt_link.specs.declared.label.Label.Label) (asked : List NodeId)
    → AllByRecursion (CastSo votes) (roll_asks instance incarnation label asked)
roll-asks-cast votes instance incarnation label [] = tt
roll-asks-cast votes instance incarnation label (q ∷ asked) = (tt, roll-asks-cast votes instance incarnation label asked)

-- what is sent to a neighbour
pub roll-asks-to : (s : World) (q r : NodeId) (instance incarnation : ℕ) (label : ℕ → Rattle.kt_link.specs.declared.label.Label.Label)
    → AreNeighbours s.scene q r
    → to r (roll_asks instance incarnation label (neighbours (role_of s.scene q)))
    ≡ messages.RollAsk record { instance = instance; label = label (node_number r); incarnation = incarnation } ∷ []
roll-asks-to s q r instance incarnation label near =
    let f : NodeId → RealMessage = λ x. messages.RollAsk record { instance = instance; label = label (node_number x); incarnation = incarnation } in
    ap (λ xs. to r (map (addressed f) xs)) (sym (all-chosen (neighbours (role_of s.scene q)))) ∙ asked-once s.scene q everyone f r near

pub everyone-asked : (s : World) (q r : NodeId) → AreNeighbours s.scene q r → cohort s.scene q everyone (node_index r) ≡ true
everyone-asked s q r near = rw (near-is s q r near) refl

pub everyone-is : (s : World) (q : NodeId) (k : ℕ) (x : Node) → IsCohort (peers s.scene) (Rollback k) (node_index q) x (cohort s.scene q everyone)
everyone-is s q k x = record { within = λ m e. first (peers s.scene (node_index q) m) e; covers = λ m near must. rw near refl } where
  first : (b : Bool) → (b && true) ≡ true → IsTrue b
  first true e = refl
  first false e = absurd (cc (e))

-- ---- the leaf

-- the machine's node behind it
abbrev joined : World → State → NodeId → NodeId → RealAsk → Node
joined s c p q ask =
    joining (Rollback ask.instance) (Some (a_key (node_index p) ask.incarnation)) (cohort s.scene q everyone)
    (sifting (Rollback ask.instance) (node_index p) (label_of ask.label) (c.node (node_index q)))

-- it stands for the real one
joined-is : (s : World) (c : State) → Represents s c → (h : Holds s) → (p q : NodeId) (n : Live) (ask : RealAsk) → AreNeighbours s.scene p q
    → IsAlive s q n
    → NodeIn s.scene s.history s.content q
    (Some (Alive (updated record no_update { kept = keeps.Sieve p ask.label; phase = Some (phases.Rolling (roller (role_of s.scene q) n p ask)) } n)))
    (joined s c p q ask)
joined-is s c is h p q n ask near alive =
    let was = alive-is s c is q n alive in record {
      log = was.log;
      life = was.life;
      state = record {
        phase = record {
          ballot = record { parent = Some (a_key (node_index p) ask.incarnation); awaited = cohort s.scene q everyone; refused = false; voted = false };
          within = refl;
          is = record {
            parent = refl;
            awaited = λ r.
                chosen-cohort s.scene q everyone r (neighbour-node s.scene p q near)
                ∙ ap (λ xs. Rattle.std.specs.List.list_any (λ x. Rattle.kt_tuple.specs.Node.node_eq x r) xs) (all-chosen (neighbours (role_of s.scene q)));
            refused = refl;
            voted = λ a e. refl;
            asks_in = was.state.life;
          };
        };
        life = was.state.life;
        count = was.state.count;
        sent = was.state.sent;
        received = was.state.received;
        kept = keeps-sieved s c is p q n ask alive;
      };
      perm = was.perm;
      tent = was.tent;
      lower = was.lower;
    }

-- the permanent checkpoint of a node that is up is the stored one
sent-before : (s : World) (c : State) → Represents s c → Holds s → (q r : NodeId) (n : Live) → IsAlive s q n → n.phase ≡ phases.Up → AreNeighbours s.scene q r
    → label_of (sent_in (permanent_header s.content q) (node_number r)) ≡ top_sent (c.node (node_index q)).perm (node_index r)
sent-before s c is h q r n alive up near =
    let none : (row_of s.content q).tentative ≡ None = backed-in s h.backed q n phases.Up alive up in
    let P : Option Tentative → Type 0 =
    λ t. Stands s.scene s.history q (log s.history q) (permanent_by (verdict_on s.content t) t (row_of s.content q).permanent) (c.node (node_index q)).perm in
    (subst P none (is.nodes q).perm).sent r near

pub joins_rollback : (s : World) (c : State) → Represents s c → Holds s → (p q : NodeId) (n : Live) (ask : RealAsk) → Comes s p q (messages.RollAsk ask)
    → IsAlive s q n → n.phase ≡ phases.Up → IsTrue (is_undecided (store_reads s (Deliver p q)).verdict)
    → up_to (label_at n.received (node_number p)) ask.label ≡ false
    → Refines s (Deliver p q) (join_rollback_plan (view s q) n p ask (store_reads s (Deliver p q)).permanent) c
unfolding carried
joins_rollback s c is h p q n ask comes alive up undecided above =
    subst (λ vote. Refines s (Deliver p q) (plan_with s n p q ask (permanent_header s.content q) vote) c) (sym (no-vote s h n p q ask)) (record {
      next = next;
      run = one_more nothing_done
          (joins (node_index q) (node_index p) (Rollback ask.instance) (label_of ask.label) ask.incarnation (carried comes.later) (cohort s.scene q everyone)
          (near-is s p q comes.neighbours) (comes-is s c is p q (messages.RollAsk ask) comes) (up-is s c is q n alive up)
          (rollback-open s c is ask.instance opened) must (everyone-is s q ask.instance (c.node (node_index q))));
      fresh = inl (tt, tt);
      stands = leads-represents s (Deliver p q) plan c next is (record {
        nodes = nodes-at s (Deliver p q) plan c (joined s c p q ask) is tt (λ r d. refl)
            (owner-in s (Deliver p q) plan (Some (Alive n)) (joined s c p q ask) alive (joined-is s c is h p q n ask comes.neighbours alive));
        board = is.board;
        links = delivered s p q plan c (messages.RollAsk ask) (asking (Rollback ask.instance) (cohort s.scene q everyone) (c.node
            (node_index q))) is comes sends;
        votes = votes-at c (node_index q) (joined s c p q ask) (λ v i. i);
        cast =
            let votes = (at (node_index q) (joined s c p q ask) c.node (node_index q)).votes in
            all-append (CastSo votes) (roll_asks ask.instance n.incarnation (sent_in (permanent_header s.content q)) (neighbours (role_of s.scene q))) []
            (roll-asks-cast votes ask.instance n.incarnation (sent_in (permanent_header s.content q)) (neighbours (role_of s.scene q))) tt;
      });
    })
  where
    plan : Plan
    plan = plan_with s n p q ask (permanent_header s.content q) None

    next : State
    next = change (node_index q) (λ x. joining (Rollback ask.instance) (Some (a_key (node_index p) ask.incarnation)) (cohort s.scene q everyone)
        (sifting (Rollback ask.instance) (node_index p) (label_of ask.label) x))
        (push (node_index q) (asking (Rollback ask.instance) (cohort s.scene q everyone) (c.node (node_index q)))
        (pull (node_index p) (node_index q) (carried comes.later) c))

    opened : IsTrue (is_undecided (verdict_of s.content ask.instance))
    opened = asked-open s p q (messages.RollAsk ask) ask.instance comes refl undecided

    must : MustJoin (Rollback ask.instance) (c.node (node_index q)) (node_index p) (label_of ask.label)
    must = subst (λ l. Rattle.kt_protocol.specs.Labels.Under (label_of ask.label) l)
        ((alive-is s c is q n alive).state.received p (neighbours-turned s.scene p q comes.neighbours))
        (up_to-false (label_of (label_at n.received (node_number p))) (label_of ask.label) above)

    sends : (r : NodeId) → AreNeighbours s.scene q r
        → asking (Rollback ask.instance) (cohort s.scene q everyone) (c.node (node_index q)) (node_index r) ≡ carried (to r plan.send)
    sends r near =
        rw (everyone-asked s q r near) (sym (
        ap (λ l. carried (to r l)) (append-nil (roll_asks ask.instance n.incarnation (sent_in (permanent_header s.content q)) (neighbours (role_of s.scene q))))
        ∙ ap carried (roll-asks-to s q r ask.instance n.incarnation (sent_in (permanent_header s.content q)) near)
        ∙ ap (λ l. Ask (Rollback ask.instance) l n.incarnation ∷ []) (sent-before s c is h q r n alive up near)
        ∙ ap (λ i. Ask (Rollback ask.instance) (top_sent (c.node (node_index q)).perm (node_index r)) i ∷ []) (alive-is s c is q n alive).state.life))
