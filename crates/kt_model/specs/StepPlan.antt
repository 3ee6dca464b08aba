-- The plan of a step, or its refusal: of several refusals the first that stands is given.
-- Cited by ActsFound, AllInstanceRows, ArrivalsFound, DownUndamaged, Enough, Holding, Kept, Lasting, OwnRows, Passed,
--   PlansFound, Settling, StepPlans, Undamaged, laws.rt, specs/Effect; other crates.
use Rattle.std.specs.Prelude.{◌≡◌, ℕ, nat_le, nat_lt, Bool, true, false, ◌&&◌, ◌||◌, if◌then◌else◌, List, [], ◌∷◌}
use Rattle.std.specs.Prelude.{length, is_some, Result, Ok, Err}
use Rattle.kt_tuple.specs.declared.node.NodeId.{NodeId}
use Rattle.kt_store.specs.declared.error.StoreError.{StoreError}
use Rattle.kt_state.specs.declared.message.Message.{Message}
use Rattle.kt_state.specs.declared.message.Message.TheVariants as messages
use Rattle.kt_state.specs.declared.plan.Plan.{Plan}
use Rattle.kt_state.specs.declared.refusal.Refusal.TheVariants as reasons
use Rattle.kt_state.specs.Node.{node_number}
use Rattle.kt_node.specs.View.{View}
use Rattle.kt_state.specs.Plan.{Planned}
use Rattle.kt_node.specs.AppMessages.{hear_app}
use Rattle.kt_node.specs.Steps.{issue, repeat, take, serve}
use Rattle.kt_node.specs.Arrivals.{hear_check, hear_rollback, hear_vote, hear_verdict}
use Rattle.kt_node.specs.Deciding.{check, decide, abandon, learn}
use Rattle.kt_node.specs.Failing.{fail, restart}
use Rattle.kt_scenario.specs.declared.step.Step.{Step}
use Rattle.kt_scenario.specs.declared.step.Step.TheVariants.{Issue, Repeat, Deliver, Take, Serve, Check, Decide}
use Rattle.kt_scenario.specs.declared.step.Step.TheVariants.{Abandon}
use Rattle.kt_scenario.specs.declared.step.Step.TheVariants.{Learn, Fail, Restart}
use Rattle.kt_model.specs.declared.error.StepError.{StepError}
use Rattle.kt_model.specs.declared.error.StepError.TheVariants as refusals
use Rattle.kt_model.specs.declared.store_reads.StoreReads.{StoreReads}
use Rattle.kt_scenario.specs.declared.step.TheConstants.{MAX_STEPS, MAX_NOTES}
use Rattle.kt_scenario.specs.Scene.{is_in_scene}
use Rattle.kt_model.specs.State.{State, link, view}
use Rattle.kt_logs.specs.Cause.{cause_of_waiting}
use Rattle.kt_model.specs.Refusals.{refusal_of}
use Rattle.kt_model.specs.StoreReads.{store_reads}

abbrev pub of_owner : Planned → Result Plan StepError
of_owner (Ok plan) = Ok plan
of_owner (Err refusal) = Err (refusal_of refusal)

-- who is a node, and of which kind, is told by the scene alone
abbrev pub of_scene : Bool → Planned → Result Plan StepError
of_scene there plan = if there then of_owner plan else Err refusals.NoNode

-- a message of p is heard
abbrev pub hear : View → StoreReads → NodeId → Message → Planned
hear v t p (messages.App app) = hear_app v p app
hear v t p (messages.CheckAsk ask) = hear_check v p ask t.verdict t.permanent t.tentative
hear v t p (messages.RollAsk ask) = hear_rollback v p ask t.verdict t.permanent
hear v t p (messages.Vote vote) = hear_vote v p vote
hear v t p (messages.Verdict instance agreed) = hear_verdict v t.stored instance agreed

-- the first message of the link
abbrev pub delivery : View → StoreReads → NodeId → List Message → Planned
delivery v t p [] = Err reasons.NothingThere
delivery v t p (message ∷ later) = hear v t p message

-- the worker's waiting request is served
abbrev pub service_by : State → NodeId → ℕ → ℕ → Planned
service_by s p worker place = serve (view s p) worker place (cause_of_waiting s.history p worker)

-- what the owner makes of its step
abbrev pub owner_plan : State → StoreReads → Step → Planned
owner_plan s t (Issue p) = issue (view s p)
owner_plan s t (Repeat p) = repeat (view s p)
owner_plan s t (Deliver p q) = delivery (view s q) t p (link s p q)
owner_plan s t (Take p) = take (view s p)
owner_plan s t (Serve p w place) = service_by s p (node_number w) place
owner_plan s t (Check p) = check (view s p) t.next t.permanent
owner_plan s t (Decide p) = decide (view s p) t.verdict
owner_plan s t (Abandon p) = abandon (view s p) t.verdict t.undecided
owner_plan s t (Learn p) = learn (view s p) t.stored (is_some t.tentative) t.verdict
owner_plan s t (Fail p) = fail (view s p) t.verdict t.permanent t.tentative
owner_plan s t (Restart p) = restart (view s p) t.stored t.next (is_some t.tentative) t.undecided t.verdict

-- the plan of a step whose owner is told so, or why it is not allowed; the limit is left aside
abbrev pub unlimited_plan : State → StoreReads → Step → Result Plan StepError
unlimited_plan s t step = of_scene (is_in_scene s.scene step) (owner_plan s t step)

-- after `MAX_STEPS` steps, or with a history of `MAX_NOTES` notes, no more is made
abbrev pub has_room : State → Bool
has_room s = nat_lt s.made MAX_STEPS && nat_lt (length s.history) MAX_NOTES

-- why there is none: all steps were made, or, where the world goes on from what was found, the history is full
abbrev pub is_at_limit : State → Bool
is_at_limit s = nat_le MAX_STEPS s.made || (is_some s.found && nat_le MAX_NOTES (length s.history))

abbrev pub if_room : {X : Type 0} → Bool → Result X StepError → Result X StepError
if_room room due = if room then due else Err refusals.StepLimit

-- of a step that is not enabled the limit is not asked
abbrev pub within_limit : {X : Type 0} → Bool → Result X StepError → Result X StepError
within_limit room (Ok plan) = if_room room (Ok plan)
within_limit room (Err (refusals.Store refusal)) = if_room room (Err (refusals.Store refusal))
within_limit room (Err refusal) = Err refusal

-- what the store says fits the node of each step: no step is refused for damage
abbrev pub IsUndamaged : State → Type 0
IsUndamaged s = (step : Step) (refusal : StoreError)
    → ¬ (unlimited_plan s (store_reads s step) step ≡ Err (refusals.Store refusal))

-- the plan of a step whose owner is told so, or its refusal
abbrev pub step_plan_by : State → StoreReads → Step → Result Plan StepError
step_plan_by s t step = within_limit (has_room s) (unlimited_plan s t step)

-- the plan of the step, or its refusal
abbrev pub step_plan : State → Step → Result Plan StepError
step_plan s step = step_plan_by s (store_reads s step) step

-- whether the step is enabled: nothing but the store or want of memory can refuse it
abbrev pub is_planned : Result Plan StepError → Bool
is_planned (Ok plan) = true
is_planned (Err (refusals.Store refusal)) = true
is_planned (Err refusal) = false

abbrev pub is_enabled : State → Step → Bool
is_enabled s step = is_planned (step_plan s step)
