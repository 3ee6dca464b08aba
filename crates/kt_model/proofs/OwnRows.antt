-- The store holds rows of nodes of the scene alone.
-- Cited by NeverUnfit.
use Rattle.std.proofs.Common.{◌≡◌, ◌∙◌, ℕ, ◌+◌, Bool, true, false, List, [], ◌∷◌, Contains, Option, None, Some, inl, inr, refl, sym, ap, subst}
use Rattle.std.proofs.lemmas.List.Elements.{Contains-append_cases}
use Rattle.std.specs.Prelude.{filter, IsTrue, Result, Ok, Err}
use Rattle.kt_tuple.specs.declared.node.NodeId.{NodeId}
use Rattle.kt_tuple.specs.Node.{is_before}
use Rattle.kt_history.proofs.Shared.{Contains-none}
use Rattle.kt_logs.proofs.Bags.{Contains-cases, Contains-unfilter}
use Rattle.kt_store.specs.declared.rows.NodeRow.{NodeRow}
use Rattle.kt_store.specs.declared.rows.InstanceRow.{InstanceRow}
use Rattle.kt_store.specs.declared.rows.Purpose.TheVariants as purposes
use Rattle.kt_store.specs.Changes.{storing, taken, promoted_from, deciding, decided}
use Rattle.kt_store.specs.Content.{Content, next_instance, instance_row, row_of}
use Rattle.kt_store.proofs.Shared.{own_row}
use Rattle.kt_state.specs.declared.plan.Plan.{Plan}
use Rattle.kt_state.specs.declared.plan.Write.{Write}
use Rattle.kt_state.specs.declared.plan.Write.TheVariants as writes
use Rattle.kt_scenario.specs.declared.step.Step.{Step}
use Rattle.kt_model.specs.declared.error.StepError.{StepError}
use Rattle.kt_scenario.specs.Scene.{SceneModel, is_node}
use Rattle.kt_model.specs.Effect.{applied, applied_if}
use Rattle.kt_model.specs.StepPlan.{step_plan}
use Rattle.kt_model.specs.Reached.{IsReached, IsStart, opened, resumes, after, next_state, or_as_it_was}
use Rattle.kt_model.specs.State.{State}
use Rattle.kt_scenario.specs.Step.{owner}
use Rattle.kt_model.specs.StoreReads.{store_reads}
use Rattle.kt_model.specs.Writing.{content_after}
use Rattle.kt_model.proofs.HeldActs.{plan-owner}
use Rattle.kt_model.proofs.PlansFound.{plan-found}

-- each row is of a node of the scene
abbrev pub AreOfScene : SceneModel → Content → Type 0
AreOfScene scene c = (row : NodeRow) → Contains c.nodes row → IsTrue (is_node scene row.node)

stored-of : (scene : SceneModel) (new : NodeRow) (c : Content) → IsTrue (is_node scene new.node) → AreOfScene scene c → AreOfScene scene (storing new c)
stored-of scene new c own all row among =
    elim (Contains-append_cases (filter (λ (r : NodeRow). is_before r.node new.node) c.nodes)
    (new ∷ filter (λ (r : NodeRow). is_before new.node r.node) c.nodes) row among) [
      | inl front ↦ all row (Contains-unfilter (λ (r : NodeRow). is_before r.node new.node) row c.nodes front)
      | inr here ↦ elim (Contains-cases new row (filter (λ (r : NodeRow). is_before new.node r.node) c.nodes) here) [
        | inl same ↦ subst (λ (r : NodeRow). IsTrue (is_node scene r.node)) same own
        | inr back ↦ all row (Contains-unfilter (λ (r : NodeRow). is_before new.node r.node) row c.nodes back)
      ]
    ]

-- a row that is made of that of p
own-of : (scene : SceneModel) (p : NodeId) (new : NodeRow) (c : Content) → new.node ≡ (row_of c p).node → IsTrue (is_node scene p) → AreOfScene scene c
    → AreOfScene scene (storing new c)
own-of scene p new c same there all =
    stored-of scene new c (subst (λ q. IsTrue (is_node scene q)) (sym (same ∙ own_row p c.nodes)) there) all

decided-of : (scene : SceneModel) (agreed : Bool) (o : Option InstanceRow) (c : Content) → AreOfScene scene c → AreOfScene scene (deciding agreed o c)
decided-of scene agreed None c all = all
decided-of scene agreed (Some row) c all = all

written-of : (scene : SceneModel) (p : NodeId) (write : Option Write) (c : Content) → IsTrue (is_node scene p) → AreOfScene scene c
    → AreOfScene scene (content_after p write c)
written-of scene p None c there all = all
written-of scene p (Some (writes.BeginCheck checkpoint)) c there all =
    own-of scene p (record (row_of c p) { tentative = taken (next_instance c) checkpoint }) c refl there all
written-of scene p (Some (writes.PutTentative instance checkpoint)) c there all =
    own-of scene p (record (row_of c p) { tentative = taken instance checkpoint }) c refl there all
written-of scene p (Some writes.Promote) c there all =
    own-of scene p (record (row_of c p) { permanent = promoted_from (row_of c p).permanent (row_of c p).tentative; tentative = None }) c refl there all
written-of scene p (Some writes.Discard) c there all = own-of scene p (record (row_of c p) { tentative = None }) c refl there all
written-of scene p (Some writes.BeginRestart) c there all =
    own-of scene p (record (row_of c p) { incarnation = (row_of c p).incarnation + 1 }) c refl there all
written-of scene p (Some writes.Bump) c there all = own-of scene p (record (row_of c p) { incarnation = (row_of c p).incarnation + 1 }) c refl there all
written-of scene p (Some (writes.Decide instance agreed)) c there all = decided-of scene agreed (instance_row c instance) c all

-- ---- the induction

abbrev pub HoldsOwn : State → Type 0
HoldsOwn s = AreOfScene s.scene s.content

result-of : (s : State) (step : Step) (r : Result Plan StepError) → HoldsOwn s → step_plan s step ≡ r → HoldsOwn (or_as_it_was (applied_if s step r) s)
result-of s step (Ok plan) all e =
    written-of s.scene (owner step) plan.write s.content (plan-owner s (store_reads s step) step plan (plan-found s (store_reads s step) step plan e)) all
result-of s step (Err refusal) all e = all

steps-of : (s : State) (steps : List Step) → HoldsOwn s → HoldsOwn (after s steps)
unfolding after
steps-of s [] all = all
steps-of s (step ∷ later) all = steps-of (next_state s step) later (result-of s step (step_plan s step) all refl)

start-of : (s : State) → IsStart s → HoldsOwn s
start-of s (opened scene is short) = λ row among. absurd (Contains-none row among)
start-of s (resumes scene c is short proper fit) = fit.rows

pub reached-own : (s : State) → IsReached s → HoldsOwn s
reached-own s is = subst HoldsOwn is.leads (steps-of is.start is.steps (start-of is.start is.is_start))
