-- A worker asks, or asks once more.
-- Cited by Refining.
use Rattle.std.proofs.Common.{◌≡◌, ℕ, IsTrue, refl}
use Rattle.kt_tuple.specs.declared.node.NodeId.{NodeId}
use Rattle.kt_tuple.specs.declared.op.Op.{Op}
use Rattle.kt_history.specs.declared.note.What.TheVariants as whats
use Rattle.kt_worker.specs.declared.worker.Worker.{Worker}
use Rattle.kt_state.specs.declared.live.Phase.TheVariants as phases
use Rattle.kt_state.specs.declared.change.BodyChange.TheVariants as bodies
use Rattle.kt_state.specs.Node.{Live, node_number}
use Rattle.kt_node.specs.Talking.{request_for, home, act_of, issue_plan, repeat_plan}
use Rattle.kt_scenario.specs.declared.step.Step.TheVariants.{Issue, Repeat}
use Rattle.kt_scenario.specs.Scene.{is_worker}
use Rattle.kt_model.specs.State.{State as World, role_of, view}
use Rattle.kt_model.proofs.Shared.{IsAlive, home-neighbour, role-id, MayNote, Holds}
use Rattle.kt_protocol.specs.Machine.{State}
use Rattle.kt_refinement.proofs.Represents.{Represents}
use Rattle.kt_refinement.proofs.Frames.{Refines}
use Rattle.kt_refinement.proofs.Sending.{says_so}

pub issues : (s : World) (c : State) → Represents s c → Holds s → (p : NodeId) (n : Live) (r : ℕ × Op) (asker : Worker) → IsTrue (is_worker s.scene p)
    → IsAlive s p n → n.phase ≡ phases.Up → MayNote s.scene s.history p (issue_plan (view s p) n r asker).note
    → Refines s (Issue p) (issue_plan (view s p) n r asker) c
issues s c is h p n r asker worker alive up may =
    says_so s c is h (Issue p) n (bodies.Work asker) (home (role_of s.scene p).peers r.1) _
    (act_of (role_of s.scene p).id 0 (node_number (role_of s.scene p).id) (request_for r) whats.Issue)
    (λ x y e. absurd (cc (e))) alive up (home-neighbour s.scene h.ready.scene p r.1 worker) (role-id s.scene p) tt (λ some. absurd (some refl)) refl refl may

pub repeats : (s : World) (c : State) → Represents s c → Holds s → (p : NodeId) (n : Live) (r : ℕ × Op) → IsTrue (is_worker s.scene p)
    → IsAlive s p n → n.phase ≡ phases.Up → MayNote s.scene s.history p (repeat_plan (view s p) n r).note
    → Refines s (Repeat p) (repeat_plan (view s p) n r) c
repeats s c is h p n r worker alive up may =
    says_so s c is h (Repeat p) n bodies.Stay (home (role_of s.scene p).peers r.1) _
    (act_of (role_of s.scene p).id 0 (node_number (role_of s.scene p).id) (request_for r) whats.Repeat)
    (λ x y e. absurd (cc (e))) alive up (home-neighbour s.scene h.ready.scene p r.1 worker) (role-id s.scene p) tt (λ some. absurd (some refl)) refl refl may
