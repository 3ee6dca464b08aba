-- What one step more makes of a journal.
-- Cited by Settled, `Journal::make`, `LockedJournal::act`, `Stage::open_or_back`, `running::run_on`.
use Rattle.std.proofs.Common.{◌≡◌, ℕ, ◌+◌, length, length-append, arith, Bool, true, false, List, [], ◌∷◌, ◌++◌, Result, Ok, refl, sym, ap, subst}
use Rattle.std.proofs.Common.{◌∙◌}
use Rattle.std.specs.Prelude.{◌&&◌, IsTrue}
use Rattle.std.specs.List.{list_all}
use Rattle.kt_tuple.specs.declared.node.NodeId.{NodeId}
use Rattle.kt_scenario.specs.declared.step.Step.{Step}
use Rattle.kt_model.specs.declared.error.StepError.{StepError}
use Rattle.kt_model.specs.declared.error.StepError.TheVariants as refusals
use Rattle.kt_scenario.specs.Scene.{SceneModel}
use Rattle.kt_model.specs.Effect.{step_result}
use Rattle.kt_model.specs.State.{State}
use Rattle.kt_scenario.specs.Step.{owner}
use Rattle.kt_core.specs.Stepping.{Refuses}
use Rattle.kt_core.specs.Store.{AreLater}
use Rattle.kt_core.specs.World.{WorldModel}
use Rattle.kt_stage.specs.Acting.{RefusesStep}
use Rattle.kt_stage.specs.Order.{has_node}
use Rattle.kt_stage.specs.Journal.{Replays, all_made, made_from, then_made}
use Rattle.kt_stage.specs.auxiliary.Midway.{are_owned}
use Rattle.kt_stage.proofs.Counts.{never-fewer}

made-more : (so_far : Result State StepError) (steps : List Step) (step : Step)
    → made_from so_far (steps ++ step ∷ []) ≡ then_made (made_from so_far steps) step
unfolding made_from
made-more so_far [] step = refl
made-more so_far (first ∷ later) step = made-more (then_made so_far first) later step

-- a step that was made
pub replays_more : (opening old new : WorldModel) (steps more : List Step) (step : Step) → Replays opening old steps → more ≡ steps ++ step ∷ []
    → (IsTrue new.is_honest → IsTrue old.is_honest) → (IsTrue new.is_honest → step_result old.state step ≡ Ok new.state) → Replays opening new more
replays_more opening old new steps more step before is honest made h =
    let b = before (honest h) in
    (b.0, ap (all_made opening.state) is ∙ made-more (Ok opening.state) steps step ∙ ap (λ (s : Result State StepError). then_made s step) b.1 ∙ made h)

-- nothing is made at the opening
pub replays_none : (opening : WorldModel) → Replays opening opening []
unfolding made_from
replays_none opening h = (h, refl)

-- at the opening
pub replays_opened : (opening world : WorldModel) (steps : List Step) → opening ≡ world → steps ≡ [] → Replays opening world steps
replays_opened opening world steps is none =
    subst (λ (w : WorldModel). Replays opening w steps) is (subst (λ (xs : List Step). Replays opening opening xs) (sym none) (replays_none opening))

-- no fault was counted at the opening
pub later_opened : (opening world : WorldModel) → opening ≡ world → AreLater opening.counts world.counts
later_opened opening world is = subst (λ (w : WorldModel). AreLater opening.counts w.counts) is (never-fewer opening.counts)

all-more : {A : Type 0} (p : A → Bool) (xs : List A) (x : A) → list_all p xs ≡ true → p x ≡ true → list_all p (xs ++ x ∷ []) ≡ true
all-more p [] x all one = rw one refl
all-more p (y ∷ xs) x all one = by (p y) (λ e. all-more p xs x e one) all
  where
    by : (b : Bool) → (list_all p xs ≡ true → list_all p (xs ++ x ∷ []) ≡ true) → (b && list_all p xs) ≡ true → (b && list_all p (xs ++ x ∷ [])) ≡ true
    by true later e = later e
    by false later e = e

pub owned_more : (scene : SceneModel) (steps more : List Step) (step : Step) (p : NodeId) → are_owned scene steps ≡ true → more ≡ steps ++ step ∷ []
    → owner step ≡ p
    → has_node scene p ≡ true → are_owned scene more ≡ true
owned_more scene steps more step p owned is own there =
    ap (are_owned scene) is ∙ all-more (λ (s : Step). has_node scene (owner s)) steps step owned (ap (has_node scene) own ∙ there)

pub counted_more : (old new : ℕ) (steps more : List Step) (step : Step) → old ≡ length steps → new ≡ old + 1 → more ≡ steps ++ step ∷ [] → new ≡ length more
counted_more old new steps more step before one is =
    let longer : length (steps ++ step ∷ []) ≡ length steps + 1 = omega (arith, length-append steps (step ∷ [])) in
    one ∙ ap (λ (n : ℕ). n + 1) before ∙ sym longer ∙ ap length (sym is)

-- a step's refusal is the one that is due
pub refuses_step : {Y : Type 0} (e : StepError) (due : Result Y StepError) → Refuses e due → RefusesStep e due
refuses_step refusals.NoNode due is = is
refuses_step refusals.WrongMode due is = is
refuses_step refusals.NothingThere due is = is
refuses_step refusals.NoSuchMatch due is = is
refuses_step refusals.NotDecided due is = is
refuses_step refusals.Unresolved due is = is
refuses_step refusals.StepLimit due is = is
refuses_step (refusals.Store refusal) due is = is
refuses_step refusals.OutOfMemory due is = tt
