-- A shard serves a request that waits: the machine sends. The cause of the service was heard, and stands on the stack.
-- Cited by Refining.
use Rattle.std.proofs.Common.{◌≡◌, ◌≢◌, ℕ, IsTrue, Some, refl, sym, subst, ◌∙◌}
use Rattle.kt_tuple.specs.declared.node.NodeId.{NodeId}
use Rattle.kt_tuple.specs.declared.node.NodeId.TheVariants as ids
use Rattle.kt_tuple.specs.Node.{node_index}
use Rattle.kt_history.specs.declared.note.Act.{Act as Done}
use Rattle.kt_history.specs.declared.note.What.TheVariants as whats
use Rattle.kt_history.specs.declared.note.Note.TheVariants as notes
use Rattle.kt_history.specs.Log.{log}
use Rattle.kt_history.specs.Closed.{acts_in_log}
use Rattle.kt_logs.specs.Cause.{cause_of_waiting}
use Rattle.kt_logs.proofs.Shared.{waits_heard, Contains-acts_at}
use Rattle.kt_shard.specs.Service.{Service}
use Rattle.kt_state.specs.declared.live.Phase.TheVariants as phases
use Rattle.kt_state.specs.declared.change.BodyChange.TheVariants as bodies
use Rattle.kt_state.specs.Node.{Live, node_number}
use Rattle.kt_node.specs.Talking.{act_of, service_plan}
use Rattle.kt_scenario.specs.declared.step.Step.TheVariants.{Serve}
use Rattle.kt_scenario.specs.Scene.{is_worker, is_shard}
use Rattle.kt_model.specs.State.{State as World, role_of, view}
use Rattle.kt_model.proofs.Shared.{IsAlive, worker-neighbour, role-id, MayNote, Holds}
use Rattle.kt_protocol.specs.Machine.{State}
use Rattle.kt_refinement.proofs.Reading.{IsKnown}
use Rattle.kt_refinement.proofs.Represents.{Represents}
use Rattle.kt_refinement.proofs.Frames.{Refines}
use Rattle.kt_refinement.proofs.Acting.{cause-heard}
use Rattle.kt_refinement.proofs.Sending.{says_so}

-- the act of a service
abbrev service_act : World → NodeId → ℕ → ℕ → Service → Done
service_act s p worker by v = act_of (role_of s.scene p).id by worker v.request (whats.Served v.answer)

-- a shard may serve only what was heard, and by the act that was heard
cause-of-service : (s : World) (c : State) → Represents s c → (p : NodeId) (worker by : ℕ) (v : Service) → IsTrue (is_shard s.scene p)
    → MayNote s.scene s.history p (Some (notes.Act (service_act s p worker by v))) → by ≢ 0 → IsKnown by (c.node (node_index p)).log
cause-of-service s c is (ids.Worker w) worker by v shard may some = absurd (cc (shard))
cause-of-service s c is (ids.Shard r) worker by v shard may some =
    let acts = acts_in_log s.history (ids.Shard r) in
    let heard = waits_heard acts worker v.request may.1.1.0 in
    let n = Contains-acts_at s.history (log s.history (ids.Shard r)) heard.act heard.among in
    let same : heard.act.by ≡ by = heard.by ∙ sym may.1.1.1 in
    let Heard : ℕ → Type 0 = λ k. k ≢ 0 → IsKnown k (c.node (node_index (ids.Shard r))).log in
    subst Heard same (cause-heard (is.nodes (ids.Shard r)).log n.0 heard.act n.1 n.2) some

pub serves : (s : World) (c : State) → Represents s c → Holds s → (p w : NodeId) (n : Live) (place : ℕ) (v : Service) → IsTrue (is_shard s.scene p)
    → IsTrue (is_worker s.scene w) → IsAlive s p n → n.phase ≡ phases.Up
    → MayNote s.scene s.history p (service_plan (view s p) n (node_number w) (cause_of_waiting s.history p (node_number w)) v).note
    → Refines s (Serve p w place) (service_plan (view s p) n (node_number w) (cause_of_waiting s.history p (node_number w)) v) c
serves s c is h p w n place v shard worker alive up may =
    let by = cause_of_waiting s.history p (node_number w) in
    says_so s c is h (Serve p w place) n (bodies.Serve (node_number w) v) (ids.Worker (node_number w)) _ (service_act s p (node_number w) by v)
    (λ x y e. absurd (cc (e))) alive up (worker-neighbour s.scene p w shard worker) (role-id s.scene p) tt
    (cause-of-service s c is p (node_number w) by v shard may) refl refl may
