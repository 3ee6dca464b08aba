-- The story of steps, of their entries.
-- Cited by no other file of crates/.
use Rattle.std.proofs.Common.{◌≡◌, List, [], ap, ◌∙◌}
use Rattle.std.specs.Prelude.{Option, None}
use Rattle.kt_scenario.specs.declared.step.Step.{Step}
use Rattle.kt_model.specs.State.{State}
use Rattle.kt_trace.specs.declared.traced.Refused.{Refused}
use Rattle.kt_trace.specs.declared.traced.Traced.{Traced}
use Rattle.kt_trace.specs.declared.traced.TracedStep.{TracedStep}
use Rattle.kt_trace.specs.Rows.{behind, trace_from}
use Rattle.kt_story.specs.Story.{IsStoryOf, StoryModel, last_refused, made_rows}

-- these are the entries of the steps from the state that was opened, and the story has their rows
pub is_story : (opened s left : State) (steps : List Step) (entries : List Traced) (rows : List TracedStep) (refused : Option Refused) (story : StoryModel)
    → s ≡ opened → entries ≡ trace_from [] 1 s steps → left ≡ behind s steps → rows ≡ made_rows entries → refused ≡ last_refused None entries
    → story.state ≡ left → story.rows ≡ rows → story.refused ≡ refused → IsStoryOf opened steps story
is_story opened s left steps entries rows refused story begins are leads rows_are refusal_is state_is story_rows story_refused = record {
  rows = story_rows ∙ rows_are ∙ ap made_rows (are ∙ ap (λ (t : State). trace_from [] 1 t steps) begins);
  refused = story_refused ∙ refusal_is ∙ ap (last_refused None) (are ∙ ap (λ (t : State). trace_from [] 1 t steps) begins);
  state = state_is ∙ leads ∙ ap (λ (t : State). behind t steps) begins;
}
