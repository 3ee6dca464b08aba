-- How the judging of a step is split: the steps of checks and rollbacks apart from the acts, and the limit last.
-- Cited by StepPlans, Steps, planning.rt, stepping.rt, `stepping::prepare`.
use Rattle.std.specs.Prelude.{IsTrue, Bool, true, false, is_some, Result, Ok, Err}
use Rattle.kt_state.specs.declared.refusal.Refusal.TheVariants as reasons
use Rattle.kt_node.specs.View.{View}
use Rattle.kt_state.specs.Plan.{Planned}
use Rattle.kt_node.specs.Deciding.{check, decide, abandon, learn}
use Rattle.kt_node.specs.Failing.{fail, restart}
use Rattle.kt_scenario.specs.declared.step.Step.{Step}
use Rattle.kt_scenario.specs.declared.step.Step.TheVariants.{Check, Decide, Abandon, Learn, Fail, Restart}
use Rattle.kt_model.specs.declared.error.StepError.{StepError}
use Rattle.kt_model.specs.declared.error.StepError.TheVariants as refusals
use Rattle.kt_model.specs.declared.store_reads.StoreReads.{StoreReads}
use Rattle.kt_state.specs.declared.plan.Plan.{Plan}
use Rattle.kt_model.specs.StepPlan.{is_at_limit}
use Rattle.kt_model.specs.State.{State}
use Rattle.kt_core.specs.Store.{IsFault}

abbrev pub voting_owner_plan : View → StoreReads → Step → Planned
voting_owner_plan v t (Check p) = check v t.next t.permanent
voting_owner_plan v t (Decide p) = decide v t.verdict
voting_owner_plan v t (Abandon p) = abandon v t.verdict t.undecided
voting_owner_plan v t (Learn p) = learn v t.stored (is_some t.tentative) t.verdict
voting_owner_plan v t (Fail p) = fail v t.verdict t.permanent t.tentative
voting_owner_plan v t (Restart p) = restart v t.stored t.next (is_some t.tentative) t.undecided t.verdict
voting_owner_plan v t step = Err reasons.WrongMode

-- the step is not allowed; a store's refusal and want of memory come only where it is
abbrev pub is_refused : Result Plan StepError → Bool
is_refused (Ok plan) = false
is_refused (Err (refusals.Store refusal)) = false
is_refused (Err refusals.OutOfMemory) = false
is_refused (Err refusal) = true

-- a refusal from before the write: a store's, for damage or for a full store, comes never while it is honest
abbrev pub IsReadCause : State → Bool → StepError → Type 0
IsReadCause s is_honest (refusals.Store refusal) = IsFault is_honest refusal
IsReadCause s is_honest refusals.StepLimit = IsTrue (is_at_limit s)
IsReadCause s is_honest refusal = Unit {0}
