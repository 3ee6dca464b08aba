-- Each state that steps lead to, from an opening or from what a store holds that fits, stands for one of the machine, once
-- all is settled that was found.
-- Cited by Lasting, Leaving, Whole.
use Rattle.std.proofs.Common.{◌≡◌, ◌∷◌, [], List, Ok, Err, Result, inl, inr, refl, sym, subst}
use Rattle.kt_state.specs.declared.plan.Plan.{Plan}
use Rattle.kt_scenario.specs.declared.step.Step.{Step}
use Rattle.kt_model.specs.declared.error.StepError.{StepError}
use Rattle.kt_model.specs.State.{State as World}
use Rattle.kt_model.specs.StoreReads.{store_reads}
use Rattle.kt_model.specs.StepPlan.{step_plan}
use Rattle.kt_model.specs.Effect.{applied, applied_if}
use Rattle.kt_model.specs.Reached.{IsReached, IsStart, opened, resumes, or_as_it_was, next_state, after}
use Rattle.kt_model.proofs.Shared.{Kept, follows, kept-holds, step_plan-kept, start-kept, settled, plan-few, plan-room}
use Rattle.kt_refinement.proofs.Refined.{StandsFor, made-stands, opening-stands}
use Rattle.kt_refinement.proofs.Resumed.{resumed-stands}
use Rattle.kt_refinement.proofs.LearnsFound.{quiet-stands}

pub record Keeps (s : World) : Type 0 where
  pub kept : Kept s
  pub stands : StandsFor (settled s)

step_plan-stands : (s : World) (k : Keeps s) (step : Step) (plan : Plan) → step_plan s step ≡ Ok plan → StandsFor (settled (applied s step plan))
step_plan-stands s k step plan e = elim (follows s k.kept.backed k.kept.newer k.kept.downs step plan e) [
  | inl f ↦
      made-stands (settled s) step (settled (applied s step plan)) (kept-holds s k.kept) k.stands
      (record {
        plan = plan;
        is_plan = f.is_plan;
        few = plan-few s (store_reads s step) step plan e;
        room = plan-room s (store_reads s step) step plan e;
        leads = sym f.leads;
      })
  | inr x ↦ subst StandsFor (sym x.leads) (quiet-stands s k.kept step plan x k.stands)
]

result-keeps : (s : World) (step : Step) (r : Result Plan StepError) → Keeps s → step_plan s step ≡ r → Keeps (or_as_it_was (applied_if s step r) s)
result-keeps s step (Ok plan) k e = record { kept = step_plan-kept s k.kept step plan e; stands = step_plan-stands s k step plan e }
result-keeps s step (Err refusal) k e = k

steps-keep : (s : World) (steps : List Step) → Keeps s → Keeps (after s steps)
unfolding after
steps-keep s [] k = k
steps-keep s (step ∷ later) k = steps-keep (next_state s step) later (result-keeps s step (step_plan s step) k refl)

start-stands : (s : World) → IsStart s → StandsFor (settled s)
start-stands s (opened scene is short) = opening-stands scene is
start-stands s (resumes scene c is short proper fit) = resumed-stands scene is c fit

pub reached-stands : (s : World) → IsReached s → StandsFor (settled s)
reached-stands s is =
    subst (λ t. StandsFor (settled t)) is.leads
    (steps-keep is.start is.steps (record { kept = start-kept is.start is.is_start; stands = start-stands is.start is.is_start })).stands
