-- What the parts of judging a step come to.
-- Cited by `Machine::owner_plan`, `Machine::short_deliver`.
use Rattle.std.proofs.Common.{◌≡◌, Bool, true, false, List, [], ◌∷◌, Some, None, Result, Ok, Err, refl, sym, ap, ◌∙◌, subst}
use Rattle.std.specs.Prelude.{slice_get}
use Rattle.kt_tuple.specs.declared.node.NodeId.{NodeId}
use Rattle.kt_state.specs.declared.message.Message.{Message}
use Rattle.kt_state.specs.declared.message.Message.TheVariants as messages
use Rattle.kt_state.specs.declared.message.AppMessage.{AppMessage}
use Rattle.kt_node.specs.AppMessages.{hear_app}
use Rattle.kt_state.specs.declared.plan.Plan.{Plan}
use Rattle.kt_state.specs.declared.refusal.Refusal.{Refusal}
use Rattle.kt_state.specs.declared.refusal.Refusal.TheVariants as reasons
use Rattle.kt_node.specs.View.{View}
use Rattle.kt_state.specs.Refusing.{Gives as Plans}
use Rattle.kt_scenario.specs.declared.step.Step.{Step}
use Rattle.kt_scenario.specs.declared.step.Step.TheVariants as steps
use Rattle.kt_model.specs.declared.error.StepError.{StepError}
use Rattle.kt_model.specs.declared.error.StepError.TheVariants as refusals
use Rattle.kt_model.specs.declared.store_reads.StoreReads.{StoreReads}
use Rattle.kt_scenario.specs.Step.{owner}
use Rattle.kt_model.specs.State.{State, link, view}
use Rattle.kt_scenario.specs.Scene.{are_neighbours}
use Rattle.kt_model.specs.StepPlan.{delivery, owner_plan, has_room, hear, unlimited_plan, of_scene, step_plan, within_limit}
use Rattle.kt_model.specs.StoreReads.{store_reads}
use Rattle.kt_core.specs.auxiliary.Machine.{Gives}
use Rattle.kt_core.specs.auxiliary.StepPlans.{is_refused}

delivery-first : (v : View) (t : StoreReads) (p : NodeId) (queue : List Message) (m : Message) → slice_get queue 0 ≡ Some m
    → delivery v t p queue ≡ hear v t p m
delivery-first v t p [] m e = absurd cc
delivery-first v t p (x ∷ later) m e = let same : x ≡ m = cc in ap (hear v t p) same

delivery-none : (v : View) (t : StoreReads) (p : NodeId) (queue : List Message) → slice_get queue 0 ≡ None → delivery v t p queue ≡ Err reasons.NothingThere
delivery-none v t p [] e = refl
delivery-none v t p (x ∷ later) e = absurd cc

pub owner_plan-first : (s : State) (t : StoreReads) (step : Step) (p q : NodeId) (v : View) (m : Message) (r : Result Plan Refusal)
    → step ≡ steps.Deliver p q → v ≡ view s (owner step)
    → slice_get (link s p q) 0 ≡ Some m → Plans r (hear v t p m) → Plans r (owner_plan s t step)
owner_plan-first s t step p q v m r is seen first plans =
    let Of : Step → Type 0 = λ x. v ≡ view s (owner x) in
    let here : v ≡ view s q = subst Of is seen in
    let P : Step → Type 0 = λ x. Plans r (owner_plan s t x) in
    subst P (sym is) (subst (Plans r) (sym (delivery-first (view s q) t p (link s p q) m first)) (subst (λ (x : View). Plans r (hear x t p m)) here plans))

pub owner_plan-none : (s : State) (t : StoreReads) (step : Step) (p q : NodeId) → step ≡ steps.Deliver p q
    → slice_get (link s p q) 0 ≡ None → owner_plan s t step ≡ Err reasons.NothingThere
owner_plan-none s t step p q is none = ap (owner_plan s t) is ∙ delivery-none (view s q) t p (link s p q) none

-- what is heard of workers and shards, below the limit
pub heard-step_plan : (s : State) (p q : NodeId) (app : AppMessage) (plan : Plan) → are_neighbours s.scene p q ≡ true → has_room s ≡ true
    → slice_get (link s p q) 0 ≡ Some (messages.App app) → hear_app (view s q) p app ≡ Ok plan → step_plan s (steps.Deliver p q) ≡ Ok plan
heard-step_plan s p q app plan there few first heard =
    let step : Step = steps.Deliver p q in
    let t = store_reads s step in
    let is : owner_plan s t step ≡ Ok plan = delivery-first (view s q) t p (link s p q) (messages.App app) first ∙ heard in
    let of : unlimited_plan s t step ≡ Ok plan = ap (λ b. of_scene b (owner_plan s t step)) there ∙ ap (of_scene true) is in
    let within : within_limit (has_room s) (Ok plan) ≡ Ok plan = rw few refl in
    ap (within_limit (has_room s)) of ∙ within

-- the limit is asked where the step is allowed
pub over : (room : Bool) (r : Result Plan StepError) (due : Result Plan StepError) → Gives r due
    → is_refused r ≡ false → room ≡ false → within_limit room due ≡ Err refusals.StepLimit
over room (Ok x) due gives not past = ap (within_limit room) gives ∙ rw past refl
over room (Err (refusals.Store e)) due gives not past = ap (within_limit room) gives ∙ rw past refl
over room (Err refusals.OutOfMemory) (Ok x) gives not past = rw past refl
over room (Err refusals.OutOfMemory) (Err e) gives not past = absurd cc
over room (Err refusals.NoNode) due gives not past = absurd cc
over room (Err refusals.WrongMode) due gives not past = absurd cc
over room (Err refusals.NothingThere) due gives not past = absurd cc
over room (Err refusals.NoSuchMatch) due gives not past = absurd cc
over room (Err refusals.NotDecided) due gives not past = absurd cc
over room (Err refusals.Unresolved) due gives not past = absurd cc
over room (Err refusals.StepLimit) due gives not past = absurd cc

pub below : (room : Bool) (r due : Result Plan StepError) → Gives r due → room ≡ true → Gives r (within_limit room due)
below room r due gives is = subst (Gives r) (sym (same due)) gives
  where
    same : (due : Result Plan StepError) → within_limit room due ≡ due
    same (Ok x) = rw is refl
    same (Err refusals.NoNode) = refl
    same (Err refusals.WrongMode) = refl
    same (Err refusals.NothingThere) = refl
    same (Err refusals.NoSuchMatch) = refl
    same (Err refusals.NotDecided) = refl
    same (Err refusals.Unresolved) = refl
    same (Err refusals.StepLimit) = refl
    same (Err (refusals.Store e)) = rw is refl
    same (Err refusals.OutOfMemory) = refl

pub refused : (room : Bool) (r due : Result Plan StepError) → Gives r due → is_refused r ≡ true → Gives r (within_limit room due)
refused room (Ok x) due gives is = absurd cc
refused room (Err (refusals.Store e)) due gives is = absurd cc
refused room (Err refusals.OutOfMemory) due gives is = absurd cc
refused room (Err refusals.NoNode) due gives is = ap (within_limit room) gives
refused room (Err refusals.WrongMode) due gives is = ap (within_limit room) gives
refused room (Err refusals.NothingThere) due gives is = ap (within_limit room) gives
refused room (Err refusals.NoSuchMatch) due gives is = ap (within_limit room) gives
refused room (Err refusals.NotDecided) due gives is = ap (within_limit room) gives
refused room (Err refusals.Unresolved) due gives is = ap (within_limit room) gives
refused room (Err refusals.StepLimit) due gives is = ap (within_limit room) gives
