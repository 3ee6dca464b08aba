-- The acts of a worker and of a shard are planned in the ways that are listed.
-- Cited by PlansFound.
use Rattle.std.proofs.Common.{◌≡◌, ℕ, ◌&&◌, List, [], ◌∷◌, Option, Some, None, Result, Ok, Err, refl}
use Rattle.std.specs.Prelude.{IsTrue, slice_get}
use Rattle.std.proofs.lemmas.Bool.{and_parts}
use Rattle.kt_tuple.specs.declared.node.NodeId.{NodeId}
use Rattle.kt_tuple.specs.declared.op.Op.{Op}
use Rattle.kt_worker.specs.declared.worker.Worker.{Worker}
use Rattle.kt_worker.specs.WorkerModel.{next_request, again_request}
use Rattle.kt_shard.specs.declared.error.ServeError.{ServeError}
use Rattle.kt_shard.specs.Shard.{Shard}
use Rattle.kt_shard.specs.Service.{Service, service}
use Rattle.kt_state.specs.declared.message.AppMessage.{AppMessage}
use Rattle.kt_state.specs.declared.live.Phase.TheVariants as phases
use Rattle.kt_state.specs.declared.plan.Plan.{Plan}
use Rattle.kt_state.specs.Node.{Body, IsWorker, IsShard, Live, Alive, node_number, worker_in, shard_in}
use Rattle.kt_state.specs.Kept.{first_kept}
use Rattle.kt_node.specs.Steps.{issue, issue_by, issue_unless_kept, issue_found, repeat, repeat_by}
use Rattle.kt_node.specs.Steps.{repeat_found, take, take_first, serve_by, serve_found}
use Rattle.kt_logs.specs.Cause.{cause_of_waiting}
use Rattle.kt_scenario.specs.declared.step.Step.TheVariants.{Issue, Repeat, Take, Serve}
use Rattle.kt_model.specs.declared.store_reads.StoreReads.{StoreReads}
use Rattle.kt_scenario.specs.Scene.{is_worker, is_shard, is_node}
use Rattle.kt_model.specs.State.{State, role_of, view}
use Rattle.kt_model.specs.StepPlan.{service_by}
use Rattle.kt_model.proofs.Plans as plans
use Rattle.kt_model.proofs.Plans.{IsAlive, PlanOf}
use Rattle.kt_node.proofs.Shared.{this}
use Rattle.kt_model.proofs.Passed.{alive-is, up-passed}

pub issue-found : (s : State) (t : StoreReads) (p : NodeId) (plan : Plan) → IsTrue (is_worker s.scene p) → issue (view s p) ≡ Ok plan
    → PlanOf s t (Issue p) plan
issue-found s t p plan there e = up-passed (view s p).node (λ n. issue_by (view s p) n (worker_in n.body)) plan (PlanOf s t (Issue p) plan) up e
  where
    Goal : Plan → Type 0
    Goal = PlanOf s t (Issue p)

    next : (n : Live) (x : Worker) → IsAlive s p n → n.phase ≡ phases.Up → n.body ≡ IsWorker x → n.kept ≡ [] → (r : Option (ℕ × Op))
        → next_request (role_of s.scene p).script x ≡ r → issue_found (view s p) n x r ≡ Ok plan → Goal plan
    next n x at is body kept None left e = absurd cc
    next n x at is body kept (Some r) left e = this Goal _ plan (plans.issues there at is body kept left) e

    unless : (n : Live) (x : Worker) → IsAlive s p n → n.phase ≡ phases.Up → n.body ≡ IsWorker x → (kept : List (NodeId × AppMessage))
        → n.kept ≡ kept → issue_unless_kept (view s p) n x (slice_get kept 0) ≡ Ok plan → Goal plan
    unless n x at is body [] kept e = next n x at is body kept (next_request (role_of s.scene p).script x) refl e
    unless n x at is body (first ∷ later) kept e = absurd cc

    by : (n : Live) → IsAlive s p n → n.phase ≡ phases.Up → (b : Body) → n.body ≡ b → issue_by (view s p) n (worker_in b) ≡ Ok plan → Goal plan
    by n at is (IsWorker x) body e = unless n x at is body n.kept refl e
    by n at is (IsShard y) body e = absurd cc

    up : (n : Live) → (view s p).node ≡ Alive n → n.phase ≡ phases.Up → issue_by (view s p) n (worker_in n.body) ≡ Ok plan → Goal plan
    up n seen is e = by n (alive-is s p n seen) is n.body refl e

pub repeat-found : (s : State) (t : StoreReads) (p : NodeId) (plan : Plan) → IsTrue (is_worker s.scene p) → repeat (view s p) ≡ Ok plan
    → PlanOf s t (Repeat p) plan
repeat-found s t p plan there e = up-passed (view s p).node (λ n. repeat_by (view s p) n (worker_in n.body)) plan (PlanOf s t (Repeat p) plan) up e
  where
    Goal : Plan → Type 0
    Goal = PlanOf s t (Repeat p)

    again : (n : Live) (x : Worker) → IsAlive s p n → n.phase ≡ phases.Up → n.body ≡ IsWorker x → (r : Option (ℕ × Op))
        → again_request x ≡ r → repeat_found (view s p) n r ≡ Ok plan → Goal plan
    again n x at is body None left e = absurd cc
    again n x at is body (Some r) left e = this Goal _ plan (plans.repeats there at is body left) e

    by : (n : Live) → IsAlive s p n → n.phase ≡ phases.Up → (b : Body) → n.body ≡ b → repeat_by (view s p) n (worker_in b) ≡ Ok plan → Goal plan
    by n at is (IsWorker x) body e = again n x at is body (again_request x) refl e
    by n at is (IsShard y) body e = absurd cc

    up : (n : Live) → (view s p).node ≡ Alive n → n.phase ≡ phases.Up → repeat_by (view s p) n (worker_in n.body) ≡ Ok plan → Goal plan
    up n seen is e = by n (alive-is s p n seen) is n.body refl e

pub take-found : (s : State) (t : StoreReads) (p : NodeId) (plan : Plan) → IsTrue (is_node s.scene p) → take (view s p) ≡ Ok plan → PlanOf s t (Take p) plan
take-found s t p plan there e = up-passed (view s p).node (λ n. take_first (view s p) n (first_kept n)) plan (PlanOf s t (Take p) plan) up e
  where
    Goal : Plan → Type 0
    Goal = PlanOf s t (Take p)

    by : (n : Live) → IsAlive s p n → n.phase ≡ phases.Up → (kept : List (NodeId × AppMessage))
        → n.kept ≡ kept → take_first (view s p) n (slice_get kept 0) ≡ Ok plan → Goal plan
    by n at is [] kept e = absurd cc
    by n at is ((from, app) ∷ later) kept e = this Goal _ plan (plans.takes there at is kept) e

    up : (n : Live) → (view s p).node ≡ Alive n → n.phase ≡ phases.Up → take_first (view s p) n (first_kept n) ≡ Ok plan → Goal plan
    up n seen is e = by n (alive-is s p n seen) is n.kept refl e

pub serve-found : (s : State) (t : StoreReads) (p w : NodeId) (place : ℕ) (plan : Plan) → IsTrue (is_shard s.scene p && is_worker s.scene w)
    → service_by s p (node_number w) place ≡ Ok plan → PlanOf s t (Serve p w place) plan
serve-found s t p w place plan there e =
    up-passed (view s p).node (λ n. serve_by (view s p) n (node_number w) place cause (shard_in n.body)) plan (PlanOf s t (Serve p w place) plan) up e
  where
    Goal : Plan → Type 0
    Goal = PlanOf s t (Serve p w place)

    cause : ℕ
    cause = cause_of_waiting s.history p (node_number w)

    served : (n : Live) (y : Shard) → IsAlive s p n → n.phase ≡ phases.Up → n.body ≡ IsShard y → (r : Result Service ServeError)
        → service y (node_number w) place ≡ r → serve_found (view s p) n (node_number w) cause r ≡ Ok plan → Goal plan
    served n y at is body (Err refusal) gives e = absurd cc
    served n y at is body (Ok v) gives e =
        let both = and_parts (is_shard s.scene p) (is_worker s.scene w) there in
        this Goal _ plan (plans.serves both.0 both.1 at is body gives) e

    by : (n : Live) → IsAlive s p n → n.phase ≡ phases.Up → (b : Body) → n.body ≡ b
        → serve_by (view s p) n (node_number w) place cause (shard_in b) ≡ Ok plan → Goal plan
    by n at is (IsWorker x) body e = absurd cc
    by n at is (IsShard y) body e = served n y at is body (service y (node_number w) place) refl e

    up : (n : Live) → (view s p).node ≡ Alive n → n.phase ≡ phases.Up
        → serve_by (view s p) n (node_number w) place cause (shard_in n.body) ≡ Ok plan → Goal plan
    up n seen is e = by n (alive-is s p n seen) is n.body refl e
