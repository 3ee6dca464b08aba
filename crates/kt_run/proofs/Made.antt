-- Steps that are made one after the other, told in two ways.
-- Cited by Outcomes, Replayed.
use Rattle.std.proofs.Common.{◌≡◌, List, [], ◌∷◌, Result, Ok, Err, refl, sym, subst, ◌∙◌, ap}
use Rattle.kt_scenario.specs.declared.step.Step.{Step}
use Rattle.kt_model.specs.declared.error.StepError.{StepError}
use Rattle.kt_model.specs.Effect.{step_result}
use Rattle.kt_model.specs.State.{State}
use Rattle.kt_model.proofs.Shared.{step-made}
use Rattle.kt_stage.specs.Journal.{made_from, all_made}
use Rattle.kt_scene.specs.Runs.{RunsTo}

-- nothing is made behind a refusal
nothing_made : (steps : List Step) (refusal : StepError) (t : State) → made_from (Err refusal) steps ≡ Ok t → {A : Type 0} → A
unfolding made_from
nothing_made [] refusal t e = absurd cc
nothing_made (step ∷ later) refusal t e = nothing_made later refusal t e

runs_from : (steps : List Step) (r : Result State StepError) (t : State) → made_from r steps ≡ Ok t → (s : State) × (r ≡ Ok s) × RunsTo s steps t
unfolding made_from
runs_from [] (Ok s) t e =
    let same : t ≡ s = cc in
    (s, refl, same)
runs_from [] (Err refusal) t e = absurd cc
runs_from (step ∷ later) (Ok s) t e =
    let more = runs_from later (step_result s step) t e in
    (s, refl, (more.0, more.1, more.2))
runs_from (step ∷ later) (Err refusal) t e = nothing_made later refusal t e

-- steps that were all made lead on
pub all_made_runs : (s : State) (steps : List Step) (t : State) → all_made s steps ≡ Ok t → RunsTo s steps t
all_made_runs s steps t e =
    let h = runs_from steps (Ok s) t e in
    let same : h.0 ≡ s = cc in
    subst (λ (x : State). RunsTo x steps t) same h.2

-- who takes part stays
pub runs_scene : (steps : List Step) (s t : State) → RunsTo s steps t → t.scene ≡ s.scene
runs_scene [] s t h = ap (λ (x : State). x.scene) h
runs_scene (step ∷ later) s t h =
    let made = step-made s step h.0 h.1 in
    let here : h.0.scene ≡ s.scene = sym (ap (λ (x : State). x.scene) made.leads) in
    runs_scene later h.0 t h.2 ∙ here

-- steps lead to one state
pub runs_once : (steps : List Step) (s t u : State) → RunsTo s steps t → RunsTo s steps u → t ≡ u
runs_once [] s t u h k = h ∙ sym k
runs_once (step ∷ later) s t u h k =
    let same : h.0 ≡ k.0 = cc in
    runs_once later h.0 t u h.2 (subst (λ (x : State). RunsTo x later u) (sym same) k.2)
