-- A node that is no shard, or that is not up, serves nobody.
-- Cited by `serving::serves`.
use Rattle.std.proofs.Common.{◌≡◌, ℕ, Bool, true, false, List, [], ◌∷◌, refl, sym, ap, ◌∙◌}
use Rattle.std.specs.Prelude.{Option, None, Some, option_map}
use Rattle.kt_tuple.specs.declared.node.NodeId.{NodeId}
use Rattle.kt_tuple.specs.Node.{node_number}
use Rattle.kt_scenario.specs.declared.step.Step.TheVariants.{Serve}
use Rattle.kt_state.specs.Node.{Live, shard_in}
use Rattle.kt_state.specs.Plan.{Planned}
use Rattle.kt_node.specs.View.{View}
use Rattle.kt_node.specs.Steps.{by_up, serve_by, up_of}
use Rattle.kt_scenario.specs.Scene.{is_in_scene}
use Rattle.kt_model.specs.State.{State, view}
use Rattle.kt_model.specs.StepPlan.{is_planned, of_owner, of_scene}
use Rattle.kt_shard.specs.Shard.{Shard}
use Rattle.kt_core.specs.Lent.{shard, shard_up}
use Rattle.kt_stage.specs.Policy.{first_some, serves_with_first, step_if}

not-step_plan : (there : Bool) (r : Planned) → is_planned (of_owner r) ≡ false → is_planned (of_scene there r) ≡ false
not-step_plan true r e = e
not-step_plan false r e = refl

no-shard : (v : View) (o : Option Live) (worker place cause : ℕ) → shard_up o ≡ None
    → is_planned (of_owner (by_up o (λ n. serve_by v n worker place cause (shard_in n.body)))) ≡ false
no-shard v None worker place cause h = refl
no-shard v (Some n) worker place cause h = rw h refl

serves-nobody : (s : State) (p w : NodeId) → shard s p ≡ None → serves_with_first s p w ≡ None
serves-nobody s p w h =
    ap (λ (b : Bool). step_if b (Serve p w 0))
    (not-step_plan (is_in_scene s.scene (Serve p w 0)) _
    (no-shard (view s p) (up_of (view s p).node) (node_number w) 0 _ h))

none-at-each : {A B : Type 0} (f : A → Option B) (xs : List A) → ((x : A) → f x ≡ None) → first_some f xs ≡ None
none-at-each f [] h = refl
none-at-each f (x ∷ xs) h = rw (h x) (none-at-each f xs h)

-- whoever waits: where nothing is lent of a shard, none is there
pub nobody_served : {A : Type 0} (s : State) (p : NodeId) (f : A → Shard) (lent : Option A) (workers : List NodeId)
    → option_map f lent ≡ shard s p → lent ≡ None → first_some (serves_with_first s p) workers ≡ None
nobody_served s p f lent workers e n = none-at-each _ workers (λ w. serves-nobody s p w (sym e ∙ ap (option_map f) n))
