-- A story from the entries of its steps, which stand on no line.
-- Cited by `watch::watch_each`, `watch::watch`.
use Rattle.std.proofs.Common.{◌≡◌, ℕ, [], List, Result, Ok, Err, refl, ap, ◌∙◌}
use Rattle.kt_scenario.specs.declared.step.Step.{Step}
use Rattle.kt_model.specs.State.{State}
use Rattle.kt_trace.specs.declared.traced.Traced.{Traced}
use Rattle.kt_trace.specs.Rows.{behind, line_of, trace_from}
use Rattle.kt_story.specs.Story.{IsStoryOf, StoryModel, last_refused, made_rows}
use Rattle.std.specs.Prelude.{None, IfOk}
use Rattle.kt_page.specs.declared.watch.Watched.{Watched}

-- no step has a line
pub no_line : (i : ℕ) → 0 ≡ line_of [] i
no_line i = refl

pub story_of : (begin old new : State) (steps : List Step) (all : List Traced) (story : StoryModel) → old ≡ begin
    → all ≡ trace_from [] 1 old steps → new ≡ behind old steps → story.state ≡ new → story.rows ≡ made_rows all
    → story.refused ≡ last_refused None all → IsStoryOf begin steps story
story_of begin old new steps all story begins entries leads state rows refused =
    let told : all ≡ trace_from [] 1 begin steps = entries ∙ ap (λ (s : State). trace_from [] 1 s steps) begins in
    record {
      rows = rows ∙ ap made_rows told;
      refused = refused ∙ ap (last_refused None) told;
      state = state ∙ leads ∙ ap (λ (s : State). behind s steps) begins;
    }

-- the same of what was seen up to the world behind the steps, if anything was
pub story_seen : {E : Type 0} (begin old new : State) (steps : List Step) (all : List Traced) (seen : Result Watched E) → old ≡ begin
    → all ≡ trace_from [] 1 old steps → new ≡ behind old steps → IfOk seen (λ w. w.story.state ≡ new) → IfOk seen (λ w. w.story.rows ≡ made_rows all)
    → IfOk seen (λ w. w.story.refused ≡ last_refused None all) → IfOk seen (λ w. IsStoryOf begin steps w.story)
story_seen begin old new steps all (Ok w) begins entries leads state rows refused =
    story_of begin old new steps all w.story begins entries leads state rows refused
story_seen begin old new steps all (Err e) begins entries leads state rows refused = tt
