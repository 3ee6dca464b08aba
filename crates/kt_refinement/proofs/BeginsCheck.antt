-- A node that is up begins a check: the machine begins.
-- Cited by Refining.
use Rattle.std.proofs.Common.{◌≡◌, ℕ, Bool, false, IsTrue, [], Option, Some, None, refl, sym, ap, subst, ◌∙◌, append-nil, inl}
use Rattle.std.specs.Option.{option_map}
use Rattle.kt_tuple.specs.declared.node.NodeId.{NodeId}
use Rattle.kt_tuple.specs.Node.{node_index}
use Rattle.kt_history.specs.Log.{log}
use Rattle.kt_store.specs.declared.rows.InstanceRow.{InstanceRow}
use Rattle.kt_store.specs.declared.rows.Purpose.TheVariants as purposes
use Rattle.kt_store.specs.declared.rows.Tentative.{Tentative}
use Rattle.kt_store.specs.declared.rows.Verdict.{Verdict as RealVerdict}
use Rattle.kt_store.specs.declared.rows.Verdict.TheVariants as verdicts
use Rattle.kt_store.specs.Content.{Content, row_of, next_instance, permanent_header, verdict_of}
use Rattle.kt_store.specs.Changes.{opening}
use Rattle.kt_store.proofs.Shared.{begun_is_read}
use Rattle.kt_vote.specs.Poll.{Poll, asking_poll}
use Rattle.kt_state.specs.declared.live.Phase.TheVariants as phases
use Rattle.kt_state.specs.declared.plan.Plan.{Plan}
use Rattle.kt_state.specs.Node.{Live, Alive}
use Rattle.kt_state.specs.Updating.{no_update}
use Rattle.kt_state.specs.Updating.{updated}
use Rattle.kt_state.specs.Asking.{check_asks}
use Rattle.kt_node.specs.Joining.{is_in_cohort, checkpoint_now, begin_check_plan}
use Rattle.kt_scenario.specs.declared.step.Step.TheVariants.{Check as TakesCheck}
use Rattle.kt_scenario.specs.Scene.{is_node}
use Rattle.kt_model.specs.State.{State as World, view}
use Rattle.kt_model.specs.StoreReads.{store_reads}
use Rattle.kt_model.specs.Writing.{content_after}
use Rattle.kt_logs.proofs.Shared.{all-append}
use Rattle.kt_model.proofs.Shared.{IsAlive, backed-in, Holds}
use Rattle.kt_protocol.specs.Machine.{Check, Node, State}
use Rattle.kt_protocol.specs.Steps.{joining, asking, begins, begin, change, push}
use Rattle.kt_protocol.specs.Runs.{nothing_done, one_more}
use Rattle.kt_protocol.proofs.Shared.{Invariant}
use Rattle.kt_refinement.proofs.Numbers.{peers}
use Rattle.kt_refinement.proofs.Represents.{carried, NodeIs, NodeIn, Stands, Represents}
use Rattle.kt_refinement.proofs.Links.{to}
use Rattle.kt_refinement.proofs.Cohorts.{chosen, cohort, chosen-cohort}
use Rattle.kt_refinement.proofs.Frames.{CastSo, Refines, owner-in, nodes-at, votes-at, sends-only, leads-represents}
use Rattle.kt_refinement.proofs.Known.{alive-is, up-is}
use Rattle.kt_refinement.proofs.RollsBack.{stored-stands}
use Rattle.kt_refinement.proofs.Beginning.{next-unbegun-check, board-begun, verdicts-stay}
use Rattle.kt_refinement.proofs.Checking.{taken-stands, cohort-is, check-asks-to, check-asks-cast}

-- the next number is open once it is begun
next-open : (p : NodeId) (c : Content) → verdict_of (opening p purposes.Check c) (next_instance c) ≡ Some verdicts.Open
next-open p c = ap (option_map (λ (row : InstanceRow). row.verdict)) (begun_is_read p purposes.Check c)

pub begins_check : (s : World) (c : State) → Invariant (peers s.scene) c → Represents s c → Holds s → (p : NodeId) (n : Live) → IsTrue (is_node s.scene p)
    → IsAlive s p n → n.phase ≡ phases.Up
    → Refines s (TakesCheck p) (begin_check_plan (view s p) n (store_reads s (TakesCheck p)).next (store_reads s (TakesCheck p)).permanent) c
unfolding carried
begins_check s c inv is h p n there alive up = record {
  next = next;
  run = one_more nothing_done
      (begins o k (cohort s.scene p chooses) (up-is s c is p n alive up) (next-unbegun-check s c is)
      (cohort-is s p n permanent k x was.state.received stored.received));
  fresh = inl (tt, tt);
  stands = leads-represents s (TakesCheck p) plan c next is (record {
    nodes = nodes-at s (TakesCheck p) plan c new is tt (λ r d. verdicts-stay s c inv is p r purposes.Check)
        (owner-in s (TakesCheck p) plan (Some (Alive n)) new alive own);
    board = board-begun p purposes.Check s.content c.board is.board;
    links = sends-only s (TakesCheck p) plan c (asking (Check k) (cohort s.scene p chooses) (c.node o)) (λ a b e. absurd (cc (e)))
        (λ r near.
        check-asks-to s p r n permanent k x near was.state.received was.state.life
        ∙ ap (λ l. carried (to r l)) (sym (append-nil (check_asks k n (chosen s.scene p chooses)))));
    votes = votes-at c o new (λ v i. i);
    cast = all-append (CastSo _) (check_asks k n (chosen s.scene p chooses)) [] (check-asks-cast _ k n (chosen s.scene p chooses)) tt;
  });
} where
  o : ℕ
  o = node_index p

  k : ℕ
  k = next_instance s.content

  permanent : Option Rattle.kt_ckpt.specs.declared.header.CkptHeader.CkptHeader
  permanent = permanent_header s.content p

  chooses : NodeId → Bool
  chooses = is_in_cohort (permanent_header s.content p) n

  plan : Plan
  plan = begin_check_plan (view s p) n (next_instance s.content) (permanent_header s.content p)

  x : Node
  x = c.node o

  was : NodeIn s.scene s.history s.content p (Some (Alive n)) (c.node (node_index p))
  was = alive-is s c is p n alive

  none : (row_of s.content p).tentative ≡ None
  none = backed-in s h.backed p n phases.Up alive up

  stored : Stands s.scene s.history p (log s.history p) (row_of s.content p).permanent (c.node (node_index p)).perm
  stored = stored-stands s p (log s.history p) (c.node (node_index p)).perm none was.perm

  new : Node
  new = joining (Check k) None (cohort s.scene p chooses) (c.node o)

  next : State
  next = begin (Check k) (change o (joining (Check k) None (cohort s.scene p chooses)) (push o (asking (Check k) (cohort s.scene p chooses) (c.node o)) c))

  tentative : Tentative
  tentative = record { instance = k; checkpoint = checkpoint_now (view s p) n }

  poll : Poll
  poll = asking_poll k n.incarnation None (chosen s.scene p chooses)

  Now : Option RealVerdict → Type 0
  Now v = NodeIs s.scene s.history p (log s.history p) (Some (Alive (updated record no_update { phase = Some (phases.Held poll) } n)))
      (record (row_of s.content p) { tentative = Some tentative }) v new

  own : NodeIs s.scene s.history p (log s.history p) (Some (Alive (updated record no_update { phase = Some (phases.Held poll) } n)))
      (record (row_of s.content p) { tentative = Some tentative }) (verdict_of (content_after p plan.write s.content) k) new
  own = subst Now (sym (next-open p s.content)) (record {
    log = was.log;
    life = was.life;
    state = record {
      phase = record {
        ballot = record { parent = None; awaited = cohort s.scene p chooses; refused = false; voted = false };
        within = refl;
        is = record {
          parent = refl;
          awaited = λ r. chosen-cohort s.scene p chooses r there;
          refused = refl;
          voted = λ a e. refl;
          asks_in = was.state.life;
        };
      };
      life = was.state.life;
      count = was.state.count;
      sent = was.state.sent;
      received = was.state.received;
      kept = was.state.kept;
    };
    perm = stored;
    tent = record {
      instance = refl;
      whole = refl;
      stands = taken-stands s.scene s.history p n (c.node o).log (view s p).acts was.log was.state.sent was.state.received;
    };
    lower = was.lower;
  })
