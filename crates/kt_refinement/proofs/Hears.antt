-- A message is heard where it comes, or taken from the front of what is kept.
-- Cited by Refining.
use Rattle.std.proofs.Common.{◌≡◌, ℕ, List, [], ◌∷◌, Option, Some, None, refl, sym, ap, subst, ◌∙◌, Contains}
use Rattle.std.specs.Prelude.{IfSome}
use Rattle.kt_tuple.specs.declared.node.NodeId.{NodeId}
use Rattle.kt_tuple.specs.Node.{node_index}
use Rattle.kt_history.specs.declared.note.What.{What}
use Rattle.kt_history.specs.declared.note.What.TheVariants as whats
use Rattle.kt_history.proofs.Shared.{Contains-here}
use Rattle.kt_shard.specs.declared.request.Request.{Request}
use Rattle.kt_state.specs.declared.message.AppMessage.{AppMessage as RealAppMessage}
use Rattle.kt_state.specs.declared.message.Message.TheVariants as messages
use Rattle.kt_state.specs.declared.live.Phase.TheVariants as phases
use Rattle.kt_state.specs.declared.change.BodyChange.{BodyChange}
use Rattle.kt_state.specs.declared.change.BodyChange.TheVariants as bodies
use Rattle.kt_state.specs.declared.change.KeptChange.{KeptChange}
use Rattle.kt_state.specs.declared.change.KeptChange.TheVariants as keeps
use Rattle.kt_state.specs.declared.plan.Plan.{Plan}
use Rattle.kt_state.specs.Node.{Live, Node as RealNode, node_number}
use Rattle.kt_node.specs.Talking.{act_of, note_of, hearing, heard_plan}
use Rattle.kt_scenario.specs.declared.step.Step.{Step}
use Rattle.kt_scenario.specs.declared.step.Step.TheVariants.{Deliver, Take}
use Rattle.kt_scenario.specs.Step.{owner}
use Rattle.kt_model.specs.State.{State as World, role_of, view}
use Rattle.kt_model.specs.auxiliary.Ready.{IsNodeReady, AreNeighbours}
use Rattle.kt_model.proofs.Shared.{IsAlive, Comes}
use Rattle.kt_model.proofs.Shared.{HeardOf, misses_request, accepts, ignores_reply, hears as hears_new, answers_again, ignores_request, misses_reply, heard-is}
use Rattle.kt_model.proofs.Shared.{role-id, neighbours-turned, MayNote, Holds}
use Rattle.kt_protocol.specs.Labels.{at}
use Rattle.kt_protocol.specs.Machine.{State}
use Rattle.kt_protocol.specs.Steps as machine
use Rattle.kt_protocol.specs.Runs.{nothing_done, one_more}
use Rattle.kt_refinement.proofs.Reading.{IsSaying}
use Rattle.kt_refinement.proofs.Represents.{carried, kept_from, app_of, Represents}
use Rattle.kt_refinement.proofs.Frames.{Refines, delivered, delivered-quietly, sends-only, links-idle}
use Rattle.kt_refinement.proofs.Known.{alive-is, up-is, near-is, comes-is}
use Rattle.kt_refinement.proofs.Kept.{nothing-kept, first-kept, kept-fewer}
use Rattle.kt_refinement.proofs.Hearing.{HearsAs, hears_only, hears_again}

-- whatever comes of the message, the machine hears it
hears-so : (s : World) (c : State) → Represents s c → Holds s → (step : Step) (n : Live) (turn : KeptChange) (from : NodeId) (app : RealAppMessage)
    → IsAlive s (owner step) n → n.phase ≡ phases.Up → HearsAs s step c n turn from app
    → MayNote s.scene s.history (owner step) (heard_plan (view s (owner step)) n turn from app).note
    → Refines s step (heard_plan (view s (owner step)) n turn from app) c
hears-so s c is h step n turn from app alive up heard_so = by (heard-is (view s (owner step)) n turn from app) where
  only : (body : BodyChange) (worker : ℕ) (request : Request) (what : What)
      → (IsSaying what → ⊥) → MayNote s.scene s.history (owner step) (note_of (role_of s.scene (owner step)).id app.by worker request what)
      → Refines s step (hearing turn from app.label body (note_of (role_of s.scene (owner step)).id app.by worker request what)) c
  only body worker request what silent may =
      hears_only s c is h step n turn from app body (act_of (role_of s.scene (owner step)).id app.by worker request what) alive up heard_so
      (role-id s.scene (owner step)) silent refl may

  by : {plan : Plan} → HeardOf (view s (owner step)) n turn from app plan → MayNote s.scene s.history (owner step) plan.note → Refines s step plan c
  by (misses_request {request = request} body talk) may = only bodies.Stay _ request (whats.Ignored None) (λ t. t) may
  by (accepts {request = request} {answer = answer} body talk waits) may = only (bodies.Work _) _ request (whats.Accepted answer) (λ t. t) may
  by (ignores_reply {request = request} {answer = answer} body talk waits) may = only bodies.Stay _ request (whats.Ignored (Some answer)) (λ t. t) may
  by (hears_new {request = request} body talk new) may = only (bodies.Wait (node_number from) request) _ request whats.Heard (λ t. t) may
  by (answers_again {request = request} {answer = answer} body talk old again) may =
      hears_again s c is h step n turn from app _
      (act_of (role_of s.scene (owner step)).id app.by (node_number from) request (whats.Again answer)) alive up heard_so
      (role-id s.scene (owner step)) tt refl refl refl may
  by (ignores_request {request = request} body talk old none) may = only bodies.Stay _ request (whats.Ignored None) (λ t. t) may
  by (misses_reply {request = request} {answer = answer} body talk) may = only bodies.Stay _ request (whats.Ignored (Some answer)) (λ t. t) may

-- it comes, and nothing is kept
pub hears : (s : World) (c : State) → Represents s c → Holds s → (p q : NodeId) (n : Live) (app : RealAppMessage) → Comes s p q (messages.App app)
    → IsAlive s q n → n.phase ≡ phases.Up → n.kept ≡ []
    → MayNote s.scene s.history q (heard_plan (view s q) n keeps.Stay p app).note
    → Refines s (Deliver p q) (heard_plan (view s q) n keeps.Stay p app) c
hears s c is h p q n app comes alive up none =
    let was = alive-is s c is q n alive in
    hears-so s c is h (Deliver p q) n keeps.Stay p app alive up (record {
      near = neighbours-turned s.scene p q comes.neighbours;
      kept = (c.node (node_index q)).kept;
      links = (machine.pull (node_index p) (node_index q) (carried comes.later) c).link;
      run = one_more nothing_done
          (machine.hears (node_index q) (node_index p) (app_of app) (carried comes.later) (near-is s p q comes.neighbours) (up-is s c is q n alive up)
          (was.state.kept p ∙ nothing-kept p n.kept none) (comes-is s c is p q (messages.App app) comes));
      still = (tt, tt);
      keeps = was.state.kept;
      quiet = λ plan silent. delivered-quietly s p q plan c (messages.App app) is comes silent;
      telling = λ plan send sends. delivered s p q plan c (messages.App app) send is comes sends;
    })

-- it is the first that is kept
pub takes : (s : World) (c : State) → Represents s c → Holds s → (p from : NodeId) (n : Live) (app : RealAppMessage) (later : List (NodeId × RealAppMessage))
    → IsAlive s p n → n.phase ≡ phases.Up → n.kept ≡ (from, app) ∷ later
    → MayNote s.scene s.history p (heard_plan (view s p) n keeps.TakeFirst from app).note
    → Refines s (Take p) (heard_plan (view s p) n keeps.TakeFirst from app) c
takes s c is h p from n app later alive up first =
    hears-so s c is h (Take p) n keeps.TakeFirst from app alive up (record {
      near = near;
      kept = at (node_index from) (kept_from from later) (c.node (node_index p)).kept;
      links = c.link;
      run = one_more nothing_done
          (machine.takes (node_index p) (node_index from) (app_of app) (kept_from from later) (near-is s from p (neighbours-turned s.scene p from near))
          (up-is s c is p n alive up) (kept from ∙ first-kept from app later));
      still = (tt, tt);
      keeps = λ q. kept-fewer from app later (c.node (node_index p)).kept kept q ∙ ap (λ l. kept_from q (Rattle.std.proofs.Common.drop 1 l)) (sym first);
      quiet = λ plan silent. links-idle s (Take p) plan c (λ x y e. absurd (cc (e))) silent;
      telling = λ plan send sends. sends-only s (Take p) plan c send (λ x y e. absurd (cc (e))) sends;
    })
  where
    Ready : Option RealNode → Type 0
    Ready row = IfSome row (IsNodeReady s.scene s.history s.made p)

    near : AreNeighbours s.scene p from
    near = ((subst Ready alive (h.ready.nodes p)).kept (from, app)
        (subst (λ l. Contains l (from, app)) (sym first) (Contains-here (from, app) later))).from

    kept : (q : NodeId) → (c.node (node_index p)).kept (node_index q) ≡ kept_from q ((from, app) ∷ later)
    kept q = (alive-is s c is p n alive).state.kept q ∙ ap (kept_from q) first
