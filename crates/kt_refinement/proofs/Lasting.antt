-- Of every step from a state that steps lead to: whom it makes roll back, or take a checkpoint, has to.
-- Cited by `laws::checkpoints_and_rollbacks_are_forced`; other crates.
use Rattle.std.proofs.Common.{◌≡◌, Ok, Err, Result, inl, inr, refl, ap, subst}
use Rattle.kt_tuple.specs.declared.node.NodeId.{NodeId}
use Rattle.kt_state.specs.declared.plan.Plan.{Plan}
use Rattle.kt_state.specs.declared.node.Mode.{Mode}
use Rattle.kt_state.specs.declared.node.Mode.TheVariants as modes
use Rattle.kt_scenario.specs.declared.step.Step.{Step}
use Rattle.kt_scenario.specs.declared.step.Step.TheVariants.{Learn}
use Rattle.kt_model.specs.declared.error.StepError.{StepError}
use Rattle.kt_model.specs.Cut.{acts_held, permanent_length}
use Rattle.kt_model.specs.State.{State as World}
use Rattle.kt_model.specs.StoreReads.{store_reads}
use Rattle.kt_model.specs.StepPlan.{step_plan}
use Rattle.kt_model.specs.Effect.{applied, applied_if, step_result}
use Rattle.kt_model.specs.Forced.{HasHeardBeyond, HasHeardAhead, WhyHeld, began, forced, IsForced}
use Rattle.kt_model.specs.Reached.{IsReached}
use Rattle.kt_model.proofs.Shared.{Kept, follows, kept-holds, permanent-settled, plan-found, reached-kept, settled}
use Rattle.kt_refinement.proofs.Refined.{StandsFor, stands-invariant}
use Rattle.kt_refinement.proofs.Resuming.{reached-stands}
use Rattle.kt_refinement.proofs.Turned.{Starts, begins, joins_check, joins_rollback, why_votes}
use Rattle.kt_refinement.proofs.Forcing.{forced-so}

-- what is beyond the permanent checkpoints is so, settled or not
beyond-back : (s : World) (q x : NodeId) → HasHeardBeyond s.history q x (permanent_length (settled s).content x)
    → HasHeardBeyond s.history q x (permanent_length s.content x)
beyond-back s q x h = subst (HasHeardBeyond s.history q x) (ap acts_held (permanent-settled s.found s.content x)) h

ahead-back : (s : World) (q x : NodeId) → HasHeardAhead s.history q x (permanent_length (settled s).content x)
    → HasHeardAhead s.history q x (permanent_length s.content x)
ahead-back s q x h = subst (HasHeardAhead s.history q x) (ap acts_held (permanent-settled s.found s.content x)) h

why-back : (s : World) (step : Step) (p : NodeId) → WhyHeld (settled s) step p → WhyHeld s step p
why-back s step p (began e) = began e
why-back s step p (forced m) = forced (record { asker = m.asker; came = m.came; heard = ahead-back s m.asker p m.heard })

-- who learns begins nothing
learns-not : {X : Type 0} (s : World) (p q : NodeId) (mode : Mode) (step : Step) → step ≡ Learn q → Starts s (store_reads s step) p step mode → X
learns-not s p q mode step e begins = absurd (cc (e))
learns-not s p q mode step e (joins_check comes alive up undecided joins) = absurd (cc (e))
learns-not s p q mode step e (joins_rollback comes alive up undecided above) = absurd (cc (e))

step_plan-forced : (s : World) → Kept s → StandsFor (settled s) → (step : Step) (plan : Plan) → step_plan s step ≡ Ok plan
    → IsForced s step (applied s step plan)
step_plan-forced s k f step plan e = elim (follows s k.backed k.newer k.downs step plan e) [
  | inl x ↦
      let so = forced-so (settled s) f.state (stands-invariant (settled s) f) f.stands (kept-holds s k) f.letters step plan x.is_plan in record {
        rolls = λ p was now.
            let m = so.rolls p was now in record { asker = m.asker; came = m.came; heard = beyond-back s p m.asker m.heard };
        holds = λ p was now. why-back s step p (so.holds p was now);
      }
  | inr x ↦
      let of = plan-found s (store_reads s step) step plan e in record {
        rolls = λ p was now. learns-not s p x.node modes.Rolling step x.is_learn (why_votes s (store_reads s step) step plan of p was modes.Rolling tt now);
        holds = λ p was now. learns-not s p x.node modes.Held step x.is_learn (why_votes s (store_reads s step) step plan of p was modes.Held tt now);
      }
]

pub forced-reached : (s : World) → IsReached s → (step : Step) (new : World) → step_result s step ≡ Ok new → IsForced s step new
forced-reached s is step new e = by (step_plan s step) refl e where
  by : (r : Result Plan StepError) → step_plan s step ≡ r → applied_if s step r ≡ Ok new → IsForced s step new
  by (Ok plan) p e =
      let same : applied s step plan ≡ new = cc (e) in
      subst (IsForced s step) same (step_plan-forced s (reached-kept s is) (reached-stands s is) step plan p)
  by (Err refusal) p e = absurd cc
