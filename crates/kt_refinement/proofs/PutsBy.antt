-- A message comes that is not heard yet: it is put behind what is kept. The machine keeps it.
-- Cited by Refining.
use Rattle.std.proofs.Common.{◌++◌, ℕ, [], ◌∷◌, Some, refl, inl}
use Rattle.kt_tuple.specs.declared.node.NodeId.{NodeId}
use Rattle.kt_tuple.specs.Node.{node_index}
use Rattle.kt_state.specs.declared.message.AppMessage.{AppMessage as RealAppMessage}
use Rattle.kt_state.specs.declared.message.Message.TheVariants as messages
use Rattle.kt_state.specs.declared.change.KeptChange.TheVariants as keeping_so
use Rattle.kt_state.specs.Node.{Live, Alive}
use Rattle.kt_state.specs.Updating.{no_update}
use Rattle.kt_node.specs.AppMessages.{keep_plan}
use Rattle.kt_state.specs.Updating.{updated}
use Rattle.kt_scenario.specs.declared.step.Step.TheVariants.{Deliver}
use Rattle.kt_model.specs.State.{State as World}
use Rattle.kt_model.proofs.Shared.{IsAlive, Comes}
use Rattle.kt_protocol.specs.Machine.{Node, State}
use Rattle.kt_protocol.specs.Steps.{keeps, keeping, change, pull}
use Rattle.kt_protocol.specs.Runs.{nothing_done, one_more}
use Rattle.kt_refinement.proofs.Represents.{app_of, carried, NodeIn, Represents}
use Rattle.kt_refinement.proofs.Frames.{Refines, owner-in, nodes-at, votes-at, delivered-quietly, leads-represents}
use Rattle.kt_refinement.proofs.Known.{alive-is, near-is, comes-is}
use Rattle.kt_refinement.proofs.Kept.{kept-more}
use Rattle.kt_refinement.proofs.Links.{to}

pub puts_by : (s : World) (c : State) → Represents s c → (p q : NodeId) (n : Live) (app : RealAppMessage) → Comes s p q (messages.App app) → IsAlive s q n
    → Refines s (Deliver p q) (keep_plan p app) c
unfolding carried to
puts_by s c is p q n app comes alive = record {
  next = next;
  run = one_more nothing_done
      (keeps o (node_index p) (app_of app) (carried comes.later) (near-is s p q comes.neighbours) (comes-is s c is p q (messages.App app) comes));
  fresh = inl (tt, tt);
  stands = leads-represents s (Deliver p q) (keep_plan p app) c next is (record {
    nodes = nodes-at s (Deliver p q) (keep_plan p app) c new is tt (λ r d. refl)
        (owner-in s (Deliver p q) (keep_plan p app) (Some (Alive n)) new alive becomes);
    board = is.board;
    links = delivered-quietly s p q (keep_plan p app) c (messages.App app) is comes (λ r near. refl);
    votes = votes-at c o new (λ v i. i);
    cast = tt;
  });
} where
  o : ℕ
  o = node_index q

  more : Node → Node
  more x = keeping (node_index p) (x.kept (node_index p) ++ app_of app ∷ []) x

  new : Node
  new = more (c.node o)

  next : State
  next = change o more (pull (node_index p) o (carried comes.later) c)

  was : NodeIn s.scene s.history s.content q (Some (Alive n)) (c.node (node_index q))
  was = alive-is s c is q n alive

  becomes : NodeIn s.scene s.history s.content q (Some (Alive (updated record no_update { kept = keeping_so.Append p app } n))) new
  becomes = record {
    log = was.log;
    life = was.life;
    state = record {
      phase = was.state.phase;
      life = was.state.life;
      count = was.state.count;
      sent = was.state.sent;
      received = was.state.received;
      kept = kept-more p app n.kept (c.node (node_index q)).kept was.state.kept;
    };
    perm = was.perm;
    tent = was.tent;
    lower = was.lower;
  }
