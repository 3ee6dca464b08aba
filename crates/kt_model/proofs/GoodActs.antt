-- The acts of workers and shards can be carried out, and leave the state ready.
-- Cited by CanApplies.
use Rattle.std.proofs.Common.{◌≡◌, ℕ, [], None, Some, refl, length, ◌++◌, ◌∷◌}
use Rattle.std.specs.Prelude.{IsTrue}
use Rattle.kt_tuple.specs.declared.node.NodeId.{NodeId}
use Rattle.kt_tuple.specs.declared.node.NodeId.TheVariants as ids
use Rattle.kt_tuple.specs.declared.op.Op.{Op}
use Rattle.kt_history.specs.declared.note.Act.{Act}
use Rattle.kt_history.specs.declared.note.Note.TheVariants as notes
use Rattle.kt_worker.specs.declared.worker.Worker.{Worker}
use Rattle.kt_worker.specs.WorkerModel.{issued}
use Rattle.kt_shard.specs.Service.{Service}
use Rattle.kt_state.specs.declared.message.AppMessage.{AppMessage}
use Rattle.kt_state.specs.declared.message.Message.{Message}
use Rattle.kt_state.specs.declared.change.BodyChange.{BodyChange}
use Rattle.kt_state.specs.declared.change.KeptChange.{KeptChange}
use Rattle.kt_state.specs.declared.plan.Plan.{Plan}
use Rattle.kt_state.specs.Node.{IsWorker, Live, node_number}
use Rattle.kt_state.specs.Ready.{CanChangeBody}
use Rattle.kt_state.specs.Updating.{changed_body}
use Rattle.kt_node.specs.Talking.{home, issue_plan, repeat_plan, service_plan, hearing, heard_plan}
use Rattle.kt_node.specs.AppMessages.{keep_plan}
use Rattle.kt_logs.specs.Cause.{cause_of_waiting}
use Rattle.kt_logs.proofs.Shared.{cause_of_waiting-named}
use Rattle.kt_scenario.specs.Scene.{is_worker, is_shard, is_node}
use Rattle.kt_model.specs.State.{State, role_of, view}
use Rattle.kt_model.specs.auxiliary.Ready.{AreNeighbours, IsBodyReady, IsMessageReady, NamesAct, IsReady}
use Rattle.kt_model.proofs.Plans.{IsAlive, Comes}
use Rattle.kt_model.proofs.Scene.{role-id, neighbour-place, home-neighbour, worker-neighbour}
use Rattle.kt_scenario.proofs.Shared.{worker-node, shard-node}
use Rattle.kt_model.proofs.Growing.{next-act}
use Rattle.kt_model.proofs.Within.{issued-within, heard-within}
use Rattle.kt_model.proofs.Heards as ways
use Rattle.kt_model.proofs.Heards.{HeardOf, heard-is}
use Rattle.kt_model.proofs.Good.{IsGood, IsKeeping, live-ready, update-good}
use Rattle.kt_node.proofs.Shared.{can-stay, serves, waits, works}
use Rattle.kt_model.proofs.Leaves.{stay-body, work-body, wait-body, serve-body, can-count}
use Rattle.kt_model.proofs.OnLinks.{first-holds}

no_cause : (s : State) → NamesAct s.history 0
no_cause s = λ some. absurd (some refl)

pub issue-good : (s : State) → IsReady s → (p : NodeId) (n : Live) (x : Worker) (r : ℕ × Op) → IsTrue (is_worker s.scene p) → IsAlive s p n
    → n.body ≡ IsWorker x
    → IsGood s p (issue_plan (view s p) n r (issued (role_of s.scene p).script x))
issue-good s ready p n x r there at body =
    let near = home-neighbour s.scene ready.scene p r.1 there in
    let place = neighbour-place s.scene ready.scene p (home (role_of s.scene p).peers r.1) near in
    update-good s ready p n _ _ _ None (worker-node s.scene p there) at
    (record {
      can = record { body = works n.body _; heard = tt; said = record { count = can-count s ready p n at; place = place } };
      body = work-body (role_of s.scene p).script s.history _ p n.body x _ body (issued-within (role_of s.scene p).script x) (live-ready s ready p n at).body;
      kept = tt;
      phase = tt;
    })
    (near, tt) ((λ some. next-act s.history _), tt) (no_cause s) (role-id s.scene p)

pub repeat-good : (s : State) → IsReady s → (p : NodeId) (n : Live) (r : ℕ × Op) → IsTrue (is_worker s.scene p) → IsAlive s p n
    → IsGood s p (repeat_plan (view s p) n r)
repeat-good s ready p n r there at =
    let near = home-neighbour s.scene ready.scene p r.1 there in
    let place = neighbour-place s.scene ready.scene p (home (role_of s.scene p).peers r.1) near in
    update-good s ready p n _ _ _ None (worker-node s.scene p there) at
    (record {
      can = record { body = can-stay n.body; heard = tt; said = record { count = can-count s ready p n at; place = place } };
      body = stay-body (role_of s.scene p).script s.history (repeat_plan (view s p) n r).note p n.body (live-ready s ready p n at).body;
      kept = tt;
      phase = tt;
    })
    (near, tt) ((λ some. next-act s.history _), tt) (no_cause s) (role-id s.scene p)

pub serve-good : (s : State) → IsReady s → (p w : NodeId) (n : Live) (v : Service) → IsTrue (is_shard s.scene p) → IsTrue (is_worker s.scene w) → IsAlive s p n
    → IsGood s p (service_plan (view s p) n (node_number w) (cause_of_waiting s.history p (node_number w)) v)
serve-good s ready p w n v there other at =
    let near = worker-neighbour s.scene p w there other in
    let place = neighbour-place s.scene ready.scene p (ids.Worker (node_number w)) near in
    update-good s ready p n _ _ _ None (shard-node s.scene p there) at
    (record {
      can = record { body = serves n.body (node_number w) v place; heard = tt; said = record { count = can-count s ready p n at; place = place } };
      body = serve-body (role_of s.scene p).script s.history _ p n.body (node_number w) v (live-ready s ready p n at).body;
      kept = tt;
      phase = tt;
    })
    (near, tt) ((λ some. next-act s.history _), tt) (cause_of_waiting-named s.history ready.causes p (node_number w)) (role-id s.scene p)

-- ---- a message is heard, or kept

-- what comes names an act, if it names one
pub comes-ready : (s : State) → IsReady s → (p q : NodeId) (m : Message) → Comes s p q m → IsMessageReady s.history m
comes-ready s ready p q m comes = first-holds s p q m (IsMessageReady s.history) comes ready.messages

-- hearing says nothing
hearing-good : (s : State) → IsReady s → (p from : NodeId) (n : Live) (kept : KeptChange) (app : AppMessage) (change : BodyChange) (a : Act)
    → IsTrue (is_node s.scene p) → IsAlive s p n
    → AreNeighbours s.scene p from → IsKeeping s.scene s.history p kept → CanChangeBody n.body change
    → IsBodyReady (role_of s.scene p).script (length (s.history ++ notes.Act a ∷ [])) p (changed_body n.body change) → NamesAct s.history a.by → a.node ≡ p
    → IsGood s p (hearing kept from app.label change (Some (notes.Act a)))
hearing-good s ready p from n kept app change a there at near keeping can body names own =
    update-good s ready p n _ [] _ None there at
    (record {
      can = record { body = can; heard = neighbour-place s.scene ready.scene p from near; said = tt };
      body = body;
      kept = keeping;
      phase = tt;
    })
    tt tt names own

heard-by : (s : State) → IsReady s → (p from : NodeId) (n : Live) (kept : KeptChange) (app : AppMessage) (plan : Plan) → IsTrue (is_node s.scene p)
    → IsAlive s p n
    → AreNeighbours s.scene p from → NamesAct s.history app.by → IsKeeping s.scene s.history p kept → HeardOf (view s p) n kept from app plan → IsGood s p plan
heard-by s ready p from n kept app plan there at near names keeping (ways.misses_request body talk) =
    hearing-good s ready p from n kept app _ _ there at near keeping (can-stay n.body)
    (stay-body (role_of s.scene p).script s.history (Some (notes.Act _)) p n.body (live-ready s ready p n at).body) names (role-id s.scene p)
heard-by s ready p from n kept app plan there at near names keeping (ways.accepts {x = x} body talk awaited) =
    hearing-good s ready p from n kept app _ _ there at near keeping (works n.body _)
    (work-body (role_of s.scene p).script s.history _ p n.body x _ body (heard-within (role_of s.scene p).script x _) (live-ready s ready p n at).body) names
    (role-id s.scene p)
heard-by s ready p from n kept app plan there at near names keeping (ways.ignores_reply body talk other) =
    hearing-good s ready p from n kept app _ _ there at near keeping (can-stay n.body)
    (stay-body (role_of s.scene p).script s.history (Some (notes.Act _)) p n.body (live-ready s ready p n at).body) names (role-id s.scene p)
heard-by s ready p from n kept app plan there at near names keeping (ways.hears {request = request} body talk new) =
    hearing-good s ready p from n kept app _ _ there at near keeping
    (waits n.body (node_number from) request (neighbour-place s.scene ready.scene p from near))
    (wait-body (role_of s.scene p).script s.history _ p n.body (node_number from) request (live-ready s ready p n at).body) names (role-id s.scene p)
heard-by s ready p from n kept app plan there at near names keeping (ways.answers_again body talk old is) =
    let place = neighbour-place s.scene ready.scene p from near in
    update-good s ready p n _ _ _ None there at
    (record {
      can = record { body = can-stay n.body; heard = place; said = record { count = can-count s ready p n at; place = place } };
      body = stay-body (role_of s.scene p).script s.history plan.note p n.body (live-ready s ready p n at).body;
      kept = keeping;
      phase = tt;
    })
    (near, tt) ((λ some. next-act s.history _), tt) names (role-id s.scene p)
heard-by s ready p from n kept app plan there at near names keeping (ways.ignores_request body talk old none) =
    hearing-good s ready p from n kept app _ _ there at near keeping (can-stay n.body)
    (stay-body (role_of s.scene p).script s.history (Some (notes.Act _)) p n.body (live-ready s ready p n at).body) names (role-id s.scene p)
heard-by s ready p from n kept app plan there at near names keeping (ways.misses_reply body talk) =
    hearing-good s ready p from n kept app _ _ there at near keeping (can-stay n.body)
    (stay-body (role_of s.scene p).script s.history (Some (notes.Act _)) p n.body (live-ready s ready p n at).body) names (role-id s.scene p)

pub heard-good : (s : State) → IsReady s → (p from : NodeId) (n : Live) (kept : KeptChange) (app : AppMessage) → IsTrue (is_node s.scene p) → IsAlive s p n
    → AreNeighbours s.scene p from → NamesAct s.history app.by → IsKeeping s.scene s.history p kept → IsGood s p (heard_plan (view s p) n kept from app)
heard-good s ready p from n kept app there at near names keeping =
    heard-by s ready p from n kept app _ there at near names keeping (heard-is (view s p) n kept from app)

pub keep-good : (s : State) → IsReady s → (p from : NodeId) (n : Live) (app : AppMessage) → IsTrue (is_node s.scene p) → IsAlive s p n
    → AreNeighbours s.scene p from
    → NamesAct s.history app.by → IsGood s p (keep_plan from app)
keep-good s ready p from n app there at near names =
    update-good s ready p n _ [] None None there at
    (record {
      can = record { body = can-stay n.body; heard = tt; said = tt };
      body = stay-body (role_of s.scene p).script s.history None p n.body (live-ready s ready p n at).body;
      kept = record { from = near; names = names };
      phase = tt;
    })
    tt tt tt tt
