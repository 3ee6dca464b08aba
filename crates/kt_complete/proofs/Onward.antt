-- One step more of the policy.
-- Cited by `going::go_on`, `going::make_next`, `going::next_among`.
use Rattle.std.proofs.Common.{◌≡◌, ◌+◌, ◌-◌, ◌<◌, arith, List, [], ◌∷◌, ◌++◌, Result, Ok, Err, refl, sym, ap, subst, ◌∙◌}
use Rattle.std.proofs.Common.{append-nil, append_assoc}
use Rattle.std.specs.Prelude.{Option, Some, None, IfOk, IsTrue}
use Rattle.kt_tuple.specs.Node.{all_nodes}
use Rattle.kt_scenario.specs.declared.step.Step.{Step}
use Rattle.kt_scenario.specs.declared.step.TheConstants.{MAX_STEPS}
use Rattle.kt_scenario.specs.declared.faults.FaultLine.{FaultLine}
use Rattle.kt_store.specs.Calls.{Counts, counted}
use Rattle.kt_store.specs.declared.error.StoreError.{StoreError}
use Rattle.kt_store.specs.declared.store.CkptStore.{Ghosts}
use Rattle.kt_model.specs.declared.error.StepError.{StepError}
use Rattle.kt_model.specs.declared.error.StepError.TheVariants as refusals
use Rattle.kt_model.specs.Effect.{step_result}
use Rattle.kt_model.specs.State.{State}
use Rattle.kt_model.specs.StepPlan.{step_plan}
use Rattle.kt_model.proofs.Shared.{plan-few}
use Rattle.kt_core.specs.Stepping.{IsByPlan, IsCause, Refuses, step_counted}
use Rattle.kt_core.specs.World.{WorldModel, beside}
use Rattle.kt_stage.specs.Asking.{IsAsked}
use Rattle.kt_stage.specs.Policy.{first_some, next_step, or_else}
use Rattle.kt_complete.specs.Completion.{GoesOn, IsHeldUp, in_step, next_of_all}
use Rattle.kt_complete.specs.auxiliary.Going.{IsOneMore, MakesNext, WentOn}

-- ---- asking

-- the first of a list gives nothing, and the others this: so it is what the whole list gives
pub asked_later : {A B : Type 0} {S : Type 0} {kind : Ghosts S} (f : State → A → Option B) (xs later : List A) (x : A) (old between new : WorldModel)
    (r : Result (Option B) StoreError)
    → xs ≡ x ∷ later
    → IsAsked kind old between (λ s y. y ≡ f s x) (Ok None) → IsAsked kind between new (λ s y. y ≡ first_some (f s) later) r
    → IsAsked kind old new (λ s y. y ≡ first_some (f s) xs) r
asked_later {A} {B} f xs later x old between new r split one two = record {
  value = λ h. by r (two.value h) (one.same (two.honest h)) (one.value (two.honest h));
  same = λ h. two.same h ∙ one.same (two.honest h);
  beside = two.beside ∙ one.beside;
  honest = λ h. one.honest (two.honest h);
  lasts = λ never h. two.lasts never (one.lasts never h);
  counts = two.counts ∙ ap (counted r) one.counts;
  cause = two.cause;
}
  where
    by : (r : Result (Option B) StoreError) → IfOk r (λ y. y ≡ first_some (f between.state) later) → between.state ≡ old.state → None ≡ f old.state x
        → IfOk r (λ y. y ≡ first_some (f old.state) xs)
    by (Ok y) is there none =
        is
        ∙ ap (λ (s : State). first_some (f s) later) there
        ∙ ap (λ (o : Option B). or_else o (first_some (f old.state) later)) none
        ∙ ap (first_some (f old.state)) (sym split)
    by (Err e) is there none = tt

-- the world was asked what is next where no fault is asked for, and this is the answer
pub next_is : (old : State) (lines : List FaultLine) (x y : Option Step) → x ≡ y → lines ≡ [] → x ≡ first_some (next_step old lines) all_nodes
    → next_of_all old ≡ y
next_is old lines x y is none said = ap (λ (ls : List FaultLine). first_some (next_step old ls) all_nodes) (sym none) ∙ sym said ∙ is

-- ---- the step that is next

-- it was made
pub next_made : (old asked new : WorldModel) (step : Step) → (IsTrue asked.is_honest → next_of_all old.state ≡ Some step)
    → (IsTrue asked.is_honest → asked.state ≡ old.state) → (IsTrue new.is_honest → IsTrue asked.is_honest)
    → (IsTrue new.is_honest → step_result asked.state step ≡ Ok new.state) → MakesNext old new (Some step)
next_made old asked new step next same honest made h =
    (next (honest h), subst (λ (s : State). step_result s step ≡ Ok new.state) (same (honest h)) (made h))

-- a world makes no more than so many
pub one_more : (old asked new : WorldModel) (step : Step) → IsByPlan asked.state step new.state → new.state.made ≡ asked.state.made + 1
    → beside asked.state ≡ beside old.state → IsOneMore old new (Some step)
one_more old asked new step by_plan one same =
    let room = plan-few asked.state by_plan.store_reads step by_plan.plan by_plan.is in
    let was : asked.state.made ≡ old.state.made = ap (λ (t : State). t.made) same in
    (omega (arith, one, was), omega (arith, room, was))

-- it was refused
pub next_refused : (old asked new : WorldModel) (step : Step) (cause : StepError) → (IsTrue asked.is_honest → next_of_all old.state ≡ Some step)
    → (IsTrue asked.is_honest → asked.state ≡ old.state) → (IsTrue new.is_honest → IsTrue asked.is_honest)
    → (IsTrue new.is_honest → new.state ≡ asked.state)
    → (IsTrue new.is_honest → Refuses cause (step_plan asked.state step)) → IsCause new.state step new.is_honest cause
    → IsHeldUp new.state new.is_honest cause
next_refused old asked new step cause next same honest stays refuses why =
    in_step step
    (λ h. ap next_of_all (stays h ∙ same (honest h)) ∙ next (honest h))
    (λ h. subst (λ (s : State). Refuses cause (step_plan s step)) (sym (stays h)) (refuses h))
    why

-- a refusal is counted alike, whatever the answer would have been else
same-counted : (X Y : Type 0) (cause : StepError) (before : Counts) → step_counted {T = X} (Err cause) before ≡ step_counted {T = Y} (Err cause) before
same-counted X Y (refusals.Store refusal) before = refl
same-counted X Y refusals.OutOfMemory before = refl
same-counted X Y refusals.NoNode before = refl
same-counted X Y refusals.WrongMode before = refl
same-counted X Y refusals.NothingThere before = refl
same-counted X Y refusals.NoSuchMatch before = refl
same-counted X Y refusals.NotDecided before = refl
same-counted X Y refusals.Unresolved before = refl
same-counted X Y refusals.StepLimit before = refl

-- what was called before it counted nothing
pub refused_counted : (X Y : Type 0) (cause : StepError) (old mid new : Counts) → new ≡ step_counted {T = X} (Err cause) mid → mid ≡ old
    → new ≡ step_counted {T = Y} (Err cause) old
refused_counted X Y cause old mid new rose same = rose ∙ ap (step_counted {T = X} (Err cause)) same ∙ same-counted X Y cause old

-- ---- listing

GoesOn-push : (old : State) (later : List Step) (between : State) (step : Step) (new : State) → GoesOn old later between
    → next_of_all between ≡ Some step → step_result between step ≡ Ok new → GoesOn old (later ++ step ∷ []) new
GoesOn-push old [] between step new goes next made = (
  new,
  subst (λ (s : State). next_of_all s ≡ Some step) goes next,
  subst (λ (s : State). step_result s step ≡ Ok new) goes made,
  refl,
)
GoesOn-push old (first ∷ later) between step new goes next made =
    (goes.0, goes.1, goes.2, GoesOn-push goes.0 later between step new goes.3 next made)

-- nothing was made so far
pub went_none : (w : WorldModel) (steps : List Step) → WentOn w w steps steps
went_none w steps = record { later = []; are = sym (append-nil steps); goes = λ h. refl; honest = λ h. h }

-- one step more was made, and stands behind the others
pub went_more : (old between new : WorldModel) (before after more : List Step) (step : Step) → WentOn old between before after
    → MakesNext between new (Some step) → (IsTrue new.is_honest → IsTrue between.is_honest) → more ≡ after ++ step ∷ []
    → WentOn old new before more
went_more old between new before after more step went made honest is = record {
  later = went.later ++ step ∷ [];
  are = is ∙ ap (λ (xs : List Step). xs ++ step ∷ []) went.are ∙ append_assoc before went.later (step ∷ []);
  goes = λ h. GoesOn-push old.state went.later between.state step new.state (went.goes (honest h)) (made h).0 (made h).1;
  honest = λ h. went.honest (honest h);
}

-- what is asked of the world, and a step that is refused, change nothing
pub went_stays : (old between new : WorldModel) (before after : List Step) → WentOn old between before after
    → (IsTrue new.is_honest → new.state ≡ between.state) → (IsTrue new.is_honest → IsTrue between.is_honest) → WentOn old new before after
went_stays old between new before after went same honest = record {
  later = went.later;
  are = went.are;
  goes = λ h. subst (λ (s : State). GoesOn old.state went.later s) (sym (same h)) (went.goes (honest h));
  honest = λ h. went.honest (honest h);
}

-- each step leaves room for fewer
pub fewer_left : (old new : WorldModel) (step : Step) → IsOneMore old new (Some step) → MAX_STEPS - new.state.made < MAX_STEPS - old.state.made
fewer_left old new step more =
    let one = more.0 in
    let few = more.1 in
    omega (arith, one, few)

-- the list was given more room
pub went_listed : (old new : WorldModel) (before after more : List Step) → more ≡ after → WentOn old new before after → WentOn old new before more
went_listed old new before after more same went = record { later = went.later; are = same ∙ went.are; goes = went.goes; honest = went.honest }
