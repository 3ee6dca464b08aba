-- What a step leaves: to carry out a plan changes its owner's row, and all others stay.
-- Cited by Applying, Backs, FirstCut, Fit, Good, Newer, Settling; other crates.
use Rattle.std.proofs.Common.{◌≡◌, ◌≢◌, ℕ, List, Option, None, inl, inr, sym, ap, subst}
use Rattle.std.specs.Option.{option_map}
use Rattle.std.proofs.lemmas.Bool.{cases_eq}
use Rattle.kt_tuple.specs.declared.node.NodeId.{NodeId}
use Rattle.kt_tuple.specs.Node.{node_index}
use Rattle.kt_tuple.proofs.Shared.{node_index-injective}
use Rattle.kt_shard.specs.Table.{at, put}
use Rattle.kt_shard.proofs.Shared.{at-put_same, at-put_other}
use Rattle.kt_state.specs.declared.plan.Plan.{Plan}
use Rattle.kt_state.specs.Node.{Node}
use Rattle.kt_state.specs.Updating.{changed}
use Rattle.kt_scenario.specs.declared.step.Step.{Step}
use Rattle.kt_scenario.specs.Step.{owner}
use Rattle.kt_model.specs.State.{State, node}
use Rattle.kt_model.specs.Effect.{applied}

-- the owner of a step as it becomes, and the others as they were
pub applied-owner : (s : State) (step : Step) (plan : Plan) → node (applied s step plan) (owner step) ≡ option_map (changed plan.change) (node s (owner step))
applied-owner s step plan = at-put_same None s.nodes (node_index (owner step)) (option_map (changed plan.change) (node s (owner step)))

pub applied-other : (s : State) (step : Step) (plan : Plan) (q : NodeId) → owner step ≢ q → node (applied s step plan) q ≡ node s q
applied-other s step plan q d =
    at-put_other None s.nodes (node_index (owner step)) (node_index q) (option_map (changed plan.change) (node s (owner step)))
    (λ e. d (node_index-injective (owner step) q (sym e)))

-- what holds of the owner's row as it becomes, and of each other row as it was, holds of each row
pub applied-rows : (s : State) (step : Step) (plan : Plan) (P : NodeId → Option Node → Type 0)
    → P (owner step) (option_map (changed plan.change) (node s (owner step)))
    → ((q : NodeId) → owner step ≢ q → P q (node s q)) → (q : NodeId) → P q (node (applied s step plan) q)
applied-rows s step plan P own others q = elim (cases_eq (node_index (owner step)) (node_index q)) [
  | inl e ↦
      let same : owner step ≡ q = node_index-injective (owner step) q e in
      subst (λ (r : NodeId). P r (node (applied s step plan) r)) same (subst (P (owner step)) (sym (applied-owner s step plan)) own)
  | inr d ↦
      let apart : owner step ≢ q = λ e. d (ap node_index e) in
      subst (P q) (sym (applied-other s step plan q apart)) (others q apart)
]

-- what holds of the new entry, and of the others as they were, holds of each entry after a put
pub put-holds : {A : Type 0} (P : A → Type 0) (d : A) (xs : List A) (i : ℕ) (y : A) → P y → ((k : ℕ) → P (at d xs k)) → (k : ℕ) → P (at d (put d xs i y) k)
put-holds P d xs i y new old k = elim (cases_eq k i) [
  | inl same ↦ subst (λ (j : ℕ). P (at d (put d xs i y) j)) (sym same) (subst P (sym (at-put_same d xs i y)) new)
  | inr other ↦ subst P (sym (at-put_other d xs i k y other)) (old k)
]
