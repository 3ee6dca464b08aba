-- In a story from the opening of a scene on, each event has the row of the step that made it. So a service that is lost
-- has a step to blame.
-- Cited by `laws::each_lost_service_has_a_step_to_blame`.
use Rattle.std.proofs.Common.{◌≡◌, ℕ, zero, suc, ◌+◌, ◌-◌, ◌<◌, ◌≤◌, Bool, true, false, IsTrue, List, [], ◌∷◌, length, Option, Some, None, Result, Ok}
use Rattle.std.proofs.Common.{Err, refl, sym, ◌∙◌, subst, inl, inr, Contains, arith}
use Rattle.std.specs.Prelude.{◌&&◌, not, is_some, slice_get}
use Rattle.std.proofs.lemmas.Bool.{cases_lt, false≢true}
use Rattle.std.proofs.lemmas.List.{length_push}
use Rattle.kt_history.specs.declared.note.Note.{Note}
use Rattle.kt_history.specs.declared.note.Note.TheVariants as notes
use Rattle.kt_history.specs.Log.{IsAct, note_at}
use Rattle.kt_history.specs.Survival.{Survives, is_service, survives}
use Rattle.kt_history.specs.WellFormed.{CausesComeFirst}
use Rattle.kt_history.proofs.Lists.{Contains-here, Contains-there}
use Rattle.kt_history.proofs.Shared.{survives-decides}
use Rattle.kt_losses.specs.Losses.{IsLostBy, IsService}
use Rattle.kt_losses.proofs.Steps.{IsLostBy-some}
use Rattle.kt_losses.proofs.Wholes.{cut_within}
use Rattle.kt_scenario.specs.Scene.{SceneModel}
use Rattle.kt_scenario.specs.declared.step.Step.{Step}
use Rattle.kt_model.specs.declared.error.StepError.{StepError}
use Rattle.kt_model.specs.Effect.{applied, applied_if, noted}
use Rattle.kt_state.specs.declared.plan.Plan.{Plan}
use Rattle.kt_model.specs.Reached.{opening}
use Rattle.kt_model.specs.State.{State}
use Rattle.kt_model.specs.StepPlan.{step_plan}
use Rattle.kt_trace.specs.declared.traced.Traced.{Traced}
use Rattle.kt_trace.specs.declared.traced.TracedStep.{TracedStep}
use Rattle.kt_trace.specs.Rows.{behind, entry_of, gone_on, line_of, onward, row_of_step, trace_from}
use Rattle.kt_story.specs.declared.story.Blame.{Blame}
use Rattle.kt_story.specs.Blames.{IsBlamed}
use Rattle.kt_story.specs.Story.{IsStoryOf, StoryModel, act_is_lost, is_act, made_rows}
use Rattle.kt_story.specs.auxiliary.Finding.{blame_of}

-- among the rows stands that of the step which made the event of this number
abbrev HasRowOf : ℕ → List TracedStep → Type 0
HasRowOf n rows = (row : TracedStep) × (Contains rows row × ((row.notes ≡ n) × (is_some row.note ≡ true)))

within : {A : Type 0} (xs : List A) (k : ℕ) → k < length xs → is_some (slice_get xs k) ≡ true
within [] k lt = absurd (omega (arith, lt))
within (x ∷ xs) zero lt = refl
within (x ∷ xs) (suc k) lt = within xs k (omega (arith, lt))

-- a step makes one event at most
one-more : (h : List Note) (note : Option Note) → length (noted h note) ≤ length h + 1
one-more h None = omega arith
one-more h (Some note) = let long = length_push h note in omega (arith, long)

made-here : (number line : ℕ) (s : State) (step : Step) (new : State) (n : ℕ) → length new.history ≤ length s.history + 1
    → length s.history < n → n ≤ length new.history
    → ((row_of_step number line s step new).notes ≡ n) × (is_some (row_of_step number line s step new).note ≡ true)
made-here number line s step new n more low high =
    (omega (arith, more, low, high), within new.history (length s.history) (omega (arith, low, high)))

covers : (lines : List ℕ) (number : ℕ) (s : State) (steps : List Step) (n : ℕ) → length s.history < n → n ≤ length (behind s steps).history
    → HasRowOf n (made_rows (trace_from lines number s steps))
unfolding trace_from behind
covers lines number s [] n low high = absurd (omega (arith, low, high))
covers lines number s (step ∷ later) n low high =
    by (step_plan s step) high (λ new below. covers lines (number + 1) new later n below)
  where
    f : State → List Traced
    f new = trace_from lines (number + 1) new later

    line : ℕ
    line = line_of lines (number - 1)

    by : (r : Result Plan StepError) → n ≤ length (gone_on (applied_if s step r) s (λ new. behind new later)).history
        → ((new : State) → length new.history < n → n ≤ length (behind new later).history → HasRowOf n (made_rows (f new)))
        → HasRowOf n (made_rows (entry_of number line s step (applied_if s step r) ∷ onward (applied_if s step r) f))
    by (Ok plan) up rest =
        let new = applied s step plan in
        let row = row_of_step number line s step new in elim (cases_lt (length new.history) n) [
          | inl below ↦ let inner = rest new below up in (inner.0, (Contains-there row (made_rows (f new)) inner.0 inner.1.0, inner.1.1))
          | inr reached ↦
              (row, (Contains-here row (made_rows (f new)), made-here number line s step new n (one-more s.history plan.note) low reached))
        ]
    by (Err cause) up rest = absurd (omega (arith, low, up))

act-of : (h : List Note) (n : ℕ) (note : Note) → note_at h n ≡ Some note → IsTrue (is_service note) → IsAct h n
act-of h n (notes.Act a) is serves = (a, is)
act-of h n (notes.Cut p keep) is serves = absurd (false≢true serves)

gone : (acts lasts : Bool) → (acts && not lasts) ≡ true → lasts ≡ false
gone true true e = absurd (false≢true e)
gone true false e = refl
gone false lasts e = absurd (false≢true e)

pub somebody : (scene : SceneModel) (steps : List Step) (story : StoryModel) → IsStoryOf (opening scene) steps story
    → CausesComeFirst story.state.history → (row : TracedStep) → IsService story.state.history row.notes
    → act_is_lost story.state.history row ≡ true → (blame : Blame) × IsBlamed story row blame
somebody scene steps story told causes row serves lost =
    let h = story.state.history in
    let n = row.notes in
    let act = act-of h n serves.note serves.is_note serves.serves in
    let dead : ¬ Survives h n = λ s. false≢true (sym (gone (is_act row.note) (survives h n) lost) ∙ (survives-decides h causes n).1 s) in
    let cut = IsLostBy-some h causes n act dead in
    let inside = cut_within h cut.0 cut.1.cut in
    let last : cut.0 ≤ length (behind (opening scene) steps).history =
    subst (λ (s : State). cut.0 ≤ length s.history) told.state inside.1 in
    let found = covers [] 1 (opening scene) steps cut.0 (omega (arith, inside.0)) last in (
      blame_of found.0,
      record {
        act = lost;
        cut = found.0;
        told = subst (λ (rows : List TracedStep). Contains rows found.0) (sym told.rows) found.1.0;
        made = found.1.1.1;
        lost = record { service = serves; lost = subst (λ (c : ℕ). IsLostBy h n c) (sym found.1.1.0) cut.1 };
        node = refl;
        failed = refl;
        step = refl;
      },
    )
