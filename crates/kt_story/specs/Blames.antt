-- Which step is to blame for a service that is lost: the one that made the cut that lost it.
-- Cited by Blaming, Covering, laws.rt, story.rt, words.rt, `words::reason_of`; other crates.
use Rattle.std.specs.Prelude.{◌≡◌, ℕ, IsTrue, true, is_some, List, [], ◌++◌, codes, Contains}
use Rattle.kt_losses.specs.Losses.{IsLossOf}
use Rattle.kt_trace.specs.declared.traced.TracedStep.{TracedStep}
use Rattle.kt_tell.specs.Words.{is_failure}
use Rattle.kt_story.specs.declared.story.Blame.{Blame}
use Rattle.kt_story.specs.Said.{reason_text}
use Rattle.kt_story.specs.Story.{StoryModel, act_is_lost}

-- the row's act is a service that is lost, and the blame names the step of the story that made the cut that lost it
pub record IsBlamed (story : StoryModel) (row : TracedStep) (blame : Blame) : Type 0 where
  pub act : act_is_lost story.state.history row ≡ true
  -- the row of that step, which made an event
  pub cut : TracedStep
  pub told : Contains story.rows cut
  pub made : IsTrue (is_some cut.note)
  -- that event is the cut
  pub lost : IsLossOf story.state.history (record { service = row.notes; cut = cut.notes })
  pub node : blame.node ≡ cut.node
  pub failed : blame.failed ≡ is_failure cut.step
  pub step : blame.step ≡ cut.number

-- why the row's service is lost, behind a comma; nothing where no step of the story is to blame
pub data IsReason (story : StoryModel) (row : TracedStep) : List ℕ → Type 0 where
  told : (blame : Blame) → IsBlamed story row blame → IsReason story row (codes ", " ++ reason_text blame)
  none : ((blame : Blame) → ¬ IsBlamed story row blame) → IsReason story row []
