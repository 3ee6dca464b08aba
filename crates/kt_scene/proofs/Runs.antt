-- Steps that were made, and one more.
-- Cited by `replaying::make_steps`.
use Rattle.std.proofs.Common.{◌≡◌, ℕ, suc, ◌+◌, ◌<◌, List, [], ◌∷◌, ◌++◌, length, take, drop, get_or, Ok, refl, sym, ap, subst, ◌∙◌, arith, length-take}
use Rattle.std.proofs.Common.{take-append-drop, drop-cons, Bool, true}
use Rattle.std.specs.Prelude.{IsTrue}
use Rattle.std.proofs.lemmas.List.{take_more, get_or_default}
use Rattle.kt_scenario.specs.declared.step.Step.{Step}
use Rattle.kt_model.specs.declared.error.StepError.{StepError}
use Rattle.kt_store.specs.Content.{Content}
use Rattle.kt_model.specs.State.{State}
use Rattle.kt_model.specs.Effect.{step_result}
use Rattle.kt_model.specs.StepPlan.{step_plan}
use Rattle.kt_core.specs.Stepping.{IsCalledFor, IsCause, Refuses}
use Rattle.kt_scene.specs.Runs.{RunsTo, IsRefusedAt}
use Rattle.kt_scene.proofs.Causes.{cause_honest}

pub RunsTo-push : (old : State) (steps : List Step) (between : State) (step : Step) (new : State) → RunsTo old steps between → step_result between step ≡ Ok new
    → RunsTo old (steps ++ step ∷ []) new
RunsTo-push old [] between step new runs e = (new, subst (λ (s : State). step_result s step ≡ Ok new) runs e, refl)
RunsTo-push old (first ∷ later) between step new runs e = (runs.0, runs.1, RunsTo-push runs.0 later between step new runs.2 e)

-- one step more of the list was made
pub made_more : (old : State) (steps : List Step) (i : ℕ) (between : State) (step : Step) (new : State) → i < length steps → step ≡ get_or steps i step
    → RunsTo old (take i steps) between → step_result between step ≡ Ok new
    → RunsTo old (take (i + 1) steps) new
made_more old steps i between step new lt at runs e =
    let more : take i steps ++ step ∷ [] ≡ take (i + 1) steps = ap (λ (s : Step). take i steps ++ s ∷ []) at ∙ sym (take_more steps i step lt) in
    let P : List Step → Type 0 = λ l. RunsTo old l new in
    subst P more (RunsTo-push old (take i steps) between step new runs e)

-- the step at this place was the first refused
pub refused_at : (old : State) (steps : List Step) (i : ℕ) (between : State) (step : Step) (cause : StepError) (left : Content) → i < length steps
    → step ≡ get_or steps i step → RunsTo old (take i steps) between → Refuses cause (step_plan between step) → IsCalledFor between step cause
    → IsCause between step true cause → left ≡ between.content → IsRefusedAt old steps (i + 1) cause left
refused_at old steps i between step cause left lt at runs e called why same = record {
  made = take i steps;
  refused = step;
  later = drop (suc i) steps;
  split = sym (take-append-drop i steps)
      ∙ ap (λ (l : List Step). take i steps ++ l) (drop-cons steps i step lt ∙ ap (λ (s : Step). s ∷ drop (suc i) steps) (sym at));
  count = let few = length-take i steps in omega (arith, few, lt);
  reached = between;
  runs = runs;
  refusal = e;
  called = called;
  why = why;
  content = same;
}

-- the same of the step as it is read from the list, whatever is read past its end
pub made_next : (old : State) (steps : List Step) (i : ℕ) (between : State) (d : Step) (new : State) → i < length steps → RunsTo old (take i steps) between
    → step_result between (get_or steps i d) ≡ Ok new → RunsTo old (take (i + 1) steps) new
made_next old steps i between d new lt runs e = made_more old steps i between (get_or steps i d) new lt (get_or_default steps i d (get_or steps i d) lt) runs e

pub refused_next : (old : State) (steps : List Step) (i : ℕ) (between : State) (d : Step) (cause : StepError) (honest : Bool) (left : State)
    → i < length steps → RunsTo old (take i steps) between → Refuses cause (step_plan between (get_or steps i d))
    → IsCalledFor between (get_or steps i d) cause → IsTrue honest → IsCause left (get_or steps i d) honest cause → left ≡ between
    → IsRefusedAt old steps (i + 1) cause left.content
refused_next old steps i between d cause honest left lt runs e called is_honest why same =
    let step = get_or steps i d in
    refused_at old steps i between step cause left.content lt (get_or_default steps i d step lt) runs e called
    (subst (λ (s : State). IsCause s step true cause) same (cause_honest left step honest cause is_honest why)) (ap (λ (s : State). s.content) same)
