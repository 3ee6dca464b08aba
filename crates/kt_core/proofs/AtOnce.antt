-- What is made at once is what the plan of the step says.
-- Cited by `Machine::carry_out_short`, `Machine::make_room_for_short`, `Machine::repeat_at_once`,
--   `Machine::short_at_once`, `Machine::short_deliver`.
use Rattle.std.proofs.Common.{◌≡◌, ℕ, ◌≤◌, length, Option, None, Some, Ok, Err, Result, sym, ap, ◌∙◌, subst}
use Rattle.std.specs.Prelude.{IfOk, IfSome, IsOk, OnErr, option_to_list}
use Rattle.std.specs.List.{AllByRecursion}
use Rattle.kt_node.specs.declared.short_plan.ShortPlan.{ShortPlan}
use Rattle.kt_state.specs.declared.plan.Plan.{Plan}
use Rattle.kt_store.specs.Content.{Content, empty_content}
use Rattle.kt_scenario.specs.declared.step.Step.{Step}
use Rattle.kt_model.specs.Effect.{applied, applied_if, step_result}
use Rattle.kt_model.specs.auxiliary.Ready.{CanApply, IsReady}
use Rattle.kt_model.specs.StepPlan.{step_plan}
use Rattle.kt_model.specs.State.{State}
use Rattle.kt_scenario.specs.Step.{owner}
use Rattle.kt_model.specs.StoreReads.{store_reads}
use Rattle.kt_core.specs.declared.machine.Machine.{Machine}
use Rattle.kt_core.specs.auxiliary.Machine.{state_of}
use Rattle.kt_core.proofs.Steps.{is-ok, on-error, step_plan-can, step_plan-leads}

-- ---- over any step: what is said is its plan

pub can-at-once : (old : Machine) (step : Step) (plan said : Plan) → IsReady (state_of old empty_content)
    → ((c : Content) → step_plan (state_of old c) step ≡ Ok plan) → said ≡ plan → CanApply (state_of old empty_content) (owner step) said
can-at-once old step plan said ready is same =
    let s = state_of old empty_content in
    let P : Plan → Type 0 = CanApply s (owner step) in subst P (sym same) (step_plan-can s step (store_reads s step) plan ready (is empty_content))

pub ready-at-once : (old new : Machine) (step : Step) (plan said : Plan) → IsReady (state_of old empty_content)
    → ((c : Content) → step_plan (state_of old c) step ≡ Ok plan) → said ≡ plan
    → ((c : Content) → state_of new c ≡ applied (state_of old c) step said) → IsReady (state_of new empty_content)
ready-at-once old new step plan said ready is same made =
    let s = state_of old empty_content in
    let P : State → Type 0 = IsReady in
    subst P (sym (made empty_content ∙ ap (applied s step) same)) (step_plan-leads s step (store_reads s step) plan ready (is empty_content))

pub made-at-once : (old new : Machine) (step : Step) (plan said : Plan)
    → ((c : Content) → step_plan (state_of old c) step ≡ Ok plan) → said ≡ plan
    → ((c : Content) → state_of new c ≡ applied (state_of old c) step said)
    → (c : Content) → step_result (state_of old c) step ≡ Ok (state_of new c)
made-at-once old new step plan said is same made c =
    ap (applied_if (state_of old c) step) (is c) ∙ ap (λ (x : State). Ok x) (sym (made c ∙ ap (applied (state_of old c) step) same))

pub enabled-at-once : {X E : Type 0} (r : Result X E) (old : Machine) (step : Step) (plan : Plan)
    → ((c : Content) → step_plan (state_of old c) step ≡ Ok plan) → OnErr r ((c : Content) → IsOk (step_plan (state_of old c) step))
enabled-at-once r old step plan is = on-error r _ (λ c. is-ok (step_plan (state_of old c) step) plan (is c))

-- ---- one message, if there is one

pub if-listed : {X : Type 0} (P : X → Type 0) (o : Option X) → AllByRecursion P (option_to_list o) → IfSome o P
if-listed P None all = tt
if-listed P (Some x) all = all.0

pub listed-if : {X : Type 0} (P : X → Type 0) (o : Option X) → IfSome o P → AllByRecursion P (option_to_list o)
listed-if P None h = tt
listed-if P (Some x) h = (h, tt)

-- room for it is room for all that is sent
pub roomy : {X : Type 0} (room : X → ℕ) (o : Option X) → IfSome o (λ x. 1 ≤ room x)
    → AllByRecursion (λ x. length (option_to_list o) ≤ room x) (option_to_list o)
roomy room None h = tt
roomy room (Some x) h = (h, tt)

pub has-room : {X : Type 0} (room : X → ℕ) (o : Option X) → AllByRecursion (λ x. length (option_to_list o) ≤ room x) (option_to_list o)
    → IfSome o (λ x. 1 ≤ room x)
has-room room None all = tt
has-room room (Some x) all = all.0

pub through-some : {X : Type 0} (P Q : X → Type 0) (o : Option X) → ((x : X) → P x → Q x) → IfSome o P → IfSome o Q
through-some P Q None go h = tt
through-some P Q (Some x) go h = go x h

-- what follows of each short plan follows of the one that was found, if one was
pub of-found : {E : Type 0} (r : Result (Option ShortPlan) E) (P Q : ShortPlan → Type 0) → ((e : ShortPlan) → P e → Q e)
    → IfOk r (λ o. IfSome o P) → IfOk r (λ o. IfSome o Q)
of-found (Ok None) P Q go h = tt
of-found (Ok (Some e)) P Q go h = go e h
of-found (Err x) P Q go h = tt
