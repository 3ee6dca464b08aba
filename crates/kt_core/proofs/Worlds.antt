-- A world that was opened, and each that a step leads to, was reached by steps while its store is honest.
-- Cited by `World::open_fresh`, `World::step`.
use Rattle.std.proofs.Common.{◌≡◌, true, ◌&&◌, Bool, List, [], ◌∷◌, ◌++◌, Result, Ok, Err, refl, sym, ap, subst, ◌∙◌}
use Rattle.std.specs.Prelude.{IsTrue, OnErr, OnOk}
use Rattle.kt_store.specs.declared.rows.NodeRow.{NodeRow}
use Rattle.kt_store.specs.declared.rows.InstanceRow.{InstanceRow}
use Rattle.kt_store.specs.Content.{Content, empty_content, is_empty, is_fresh}
use Rattle.kt_scenario.specs.Scene.{SceneModel, IsScene}
use Rattle.kt_model.specs.Short.{AreShort}
use Rattle.kt_model.proofs.Shared.{made-noted, opening-ready}
use Rattle.kt_refinement.proofs.Shared.{forced-reached}
use Rattle.kt_scenario.specs.declared.step.Step.{Step}
use Rattle.kt_model.specs.declared.error.StepError.{StepError}
use Rattle.kt_model.specs.Effect.{step_result}
use Rattle.kt_model.specs.Forced.{IsForced}
use Rattle.kt_model.specs.Headline.{IsNoted}
use Rattle.kt_model.specs.auxiliary.Ready.{IsReady}
use Rattle.kt_model.specs.Reached.{opening, next_state, or_as_it_was, after, IsReached, opened as opens}
use Rattle.kt_model.specs.State.{State}
use Rattle.kt_core.specs.declared.machine.Machine.{Machine}
use Rattle.kt_core.specs.auxiliary.Machine.{state_of}
use Rattle.kt_core.specs.auxiliary.Kept.{IsWorld}

after-push : (s : State) (steps : List Step) (step : Step) → after s (steps ++ step ∷ []) ≡ next_state (after s steps) step
unfolding after
after-push s [] step = refl
after-push s (first ∷ later) step = after-push (next_state s first) later step

pub made-reached : (s new : State) (step : Step) → IsReached s → step_result s step ≡ Ok new → IsReached new
made-reached s new step r e = record {
  start = r.start;
  is_start = r.is_start;
  steps = r.steps ++ step ∷ [];
  leads = after-push r.start r.steps step ∙ ap (λ (x : State). next_state x step) r.leads ∙ ap (λ (x : Result State StepError). or_as_it_was x s) e;
}

-- a world stays one, whether the step was made or refused
pub step-world : {X : Type 0} (r : Result X StepError) (old new : Machine) (before after : Content) (was is : Bool) (step : Step)
    → IsWorld (state_of old before) was
    → IsReady (state_of new empty_content) → (IsTrue is → IsTrue was) → (IsTrue is → OnOk r (step_result (state_of old before) step ≡ Ok (state_of new after)))
    → OnErr r (state_of new empty_content ≡ state_of old empty_content) → (IsTrue is → OnErr r (after ≡ before)) → IsWorld (state_of new after) is
step-world r old new before after was is step world ready honest made same content =
    record { ready = ready; reached = λ h. by r (made h) same (content h) (world.reached (honest h)) }
  where
    by : {X : Type 0} (r : Result X StepError) → OnOk r (step_result (state_of old before) step ≡ Ok (state_of new after))
        → OnErr r (state_of new empty_content ≡ state_of old empty_content)
        → OnErr r (after ≡ before) → IsReached (state_of old before) → IsReached (state_of new after)
    by (Ok x) ok err content reached = made-reached (state_of old before) (state_of new after) step reached ok
    by (Err e) ok err content reached =
        let there : state_of new after ≡ state_of old before = ap (λ (s : State). record s { content = after }) err ∙ ap (state_of old) content in
        let P : State → Type 0 = IsReached in subst P (sym there) reached

-- whom a step makes roll back, or take a checkpoint, has to
pub step-forced : {X : Type 0} (r : Result X StepError) (s new : State) (step : Step) → IsReached s
    → OnOk r (step_result s step ≡ Ok new) → OnOk r (IsForced s step new)
step-forced (Ok x) s new step is made = forced-reached s is step new made
step-forced (Err e) s new step is made = tt

-- what it does to the history
pub step-noted : {X : Type 0} (r : Result X StepError) (s new : State) (step : Step) → IsReached s
    → OnOk r (step_result s step ≡ Ok new) → OnOk r (IsNoted s step new)
step-noted (Ok x) s new step is made = made-noted s step new is made
step-noted (Err e) s new step is made = tt

-- ---- opening

fresh-empty : (c : Content) → is_fresh c ≡ true → c ≡ empty_content
fresh-empty c e = by c.nodes c.board refl refl e
  where
    by : (nodes : List NodeRow) (board : List InstanceRow) → c.nodes ≡ nodes → c.board ≡ board → (is_empty nodes && is_empty board) ≡ true → c ≡ empty_content
    by [] [] n b e = λ i. record { nodes = n i; board = b i }
    by [] (x ∷ later) n b e = absurd cc
    by (x ∷ later) board n b e = absurd cc

-- a world that was opened over a fresh store is at its opening
pub opened-state : (m : Machine) (scene : SceneModel) (c : Content) → state_of m empty_content ≡ opening scene → is_fresh c ≡ true
    → state_of m c ≡ opening scene
opened-state m scene c opened fresh = ap (state_of m) (fresh-empty c fresh) ∙ opened

pub opened-world : (m : Machine) (scene : SceneModel) (c : Content) (honest : Bool) → state_of m empty_content ≡ opening scene → IsScene scene → AreShort scene
    → (IsTrue honest → is_fresh c ≡ true) → IsWorld (state_of m c) honest
unfolding after
opened-world m scene c honest opened is short fresh = record {
  ready = let P : State → Type 0 = IsReady in subst P (sym opened) (opening-ready scene is short);
  reached = λ h. record { start = opening scene; is_start = opens scene is short; steps = []; leads = sym (opened-state m scene c opened (fresh h)) };
}
