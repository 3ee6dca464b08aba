-- What a text is drawn as, and how the drawing ends, from bytes to bytes.
-- Cited by Drawings, drawing.rt, specs/auxiliary/Drawn, `drawing::put_drawn`, `drawing::write_drawing`,
--   `drawing::write_drawn`; other crates.
use Rattle.std.specs.Prelude.{◌≡◌, ℕ, ◌≤◌, ◌<◌, ◌-◌, List, length, take, Option, None, Some, Result, Ok, Err}
use Rattle.kt_scenario.specs.declared.step.Step.{Step}
use Rattle.kt_scenario.specs.Scene.{SceneModel}
use Rattle.kt_text.specs.Reading.{scenario_of_steps}
use Rattle.kt_text.specs.Scenario.{IsScenario}
use Rattle.kt_model.specs.Reached.{opening}
use Rattle.kt_scene.specs.Outside.{Reader, Writer}
use Rattle.kt_scene.specs.Stream.{IsAllRead, IsReadFault, WritesAll, WritesFront}
use Rattle.kt_scene.specs.declared.fault.ReplayFault.{ReplayFault}
use Rattle.kt_scene.specs.declared.fault.ReplayFault.TheVariants as faults
use Rattle.kt_trace.specs.declared.traced.Refused.{Refused}
use Rattle.kt_look.specs.Told.{IsUntold}
use Rattle.kt_story.specs.Story.{IsStoryOf, StoryModel}
use Rattle.kt_draw.specs.Rows.{HasRows, picture_head}
use Rattle.kt_draw.specs.declared.picture.Form.TheVariants.{Alone}
use Rattle.kt_page.specs.Head.{page_head}
use Rattle.kt_draw.specs.declared.picture.TheConstants.{MOST_ROWS}
use Rattle.kt_look.specs.declared.drawing.Drawing.{Drawing}
use Rattle.kt_look.specs.declared.drawing.Kind.{Kind}
use Rattle.kt_look.specs.declared.drawing.Kind.TheVariants as kinds
use Rattle.kt_look.specs.declared.drawing.DrawFault.{DrawFault}
use Rattle.kt_look.specs.declared.drawing.DrawFault.TheVariants.{TooMany, Replay}

-- the steps that are made
abbrev pub made : Drawing → List Step → List Step
made drawing steps = take drawing.to steps

-- how many of them are to be drawn
abbrev pub drawn_count : Drawing → List Step → ℕ
drawn_count drawing steps = length (made drawing steps) - (drawing.from - 1)

-- how a drawing of this kind begins
abbrev pub head_of : Kind → List ℕ
head_of kinds.Picture = picture_head Alone
head_of kinds.Page = page_head

-- how the steps ended: by the one that was refused, if one was
abbrev pub end_by : Option Refused → Result (Unit {0}) DrawFault
end_by None = Ok tt
end_by (Some r) = Err (Replay (faults.Step r.number r.cause))

-- the text spells a scenario of steps; what is drawn begins as its kind does, and has the rows of the scenario's story
-- from the first one that is to be drawn on, in order; and the steps ended so
pub record IsDrawn (drawing : Drawing) (text drawn : List ℕ) (end : Result (Unit {0}) DrawFault) : Type 0 where
  pub scene : SceneModel
  pub steps : List Step
  pub scenario : IsScenario text (scenario_of_steps scene steps)
  pub few : drawn_count drawing steps ≤ MOST_ROWS
  pub story : StoryModel
  pub told : IsStoryOf (opening scene) (made drawing steps) story
  pub rows : HasRows (head_of drawing.kind) story drawing.from drawn
  pub ended : end ≡ end_by story.refused

-- the text spells a scenario of which so many steps are to be drawn, which are too many
pub record HasTooMany (drawing : Drawing) (text : List ℕ) (count : ℕ) : Type 0 where
  pub scene : SceneModel
  pub steps : List Step
  pub scenario : IsScenario text (scenario_of_steps scene steps)
  pub is : count ≡ drawn_count drawing steps
  pub many : MOST_ROWS < count

-- why nothing is drawn of a text: too many steps are to be, it is no scenario of steps, or memory is wanting
abbrev pub IsUndrawn : Drawing → List ℕ → DrawFault → Type 0
IsUndrawn drawing text (TooMany count) = HasTooMany drawing text count
IsUndrawn drawing text (Replay fault) = IsUntold text fault

-- how the drawing ends. What the scenario that was read is drawn as is written and passed on, and the answer is how its
-- steps ended; or the writer failed, and a front of that is written; or nothing is written, because of reading, or of
-- the text, which is explained
pub data EndsDrawing (drawing : Drawing) (before after : Reader) (old new : Writer)
    : Result (Unit {0}) DrawFault → Type 0 where
  drawn : {answer : Result (Unit {0}) DrawFault} (text drawn : List ℕ) → IsAllRead before after text
      → IsDrawn drawing text drawn answer → WritesAll old new drawn
      → EndsDrawing drawing before after old new answer
  unwritten : {end : Result (Unit {0}) DrawFault} (text drawn : List ℕ) → IsAllRead before after text
      → IsDrawn drawing text drawn end → WritesFront old new drawn
      → EndsDrawing drawing before after old new (Err (Replay faults.Write))
  undrawn : (text : List ℕ) (fault : DrawFault) → IsAllRead before after text → IsUndrawn drawing text fault
      → new ≡ old → EndsDrawing drawing before after old new (Err fault)
  unread : (fault : ReplayFault) → IsReadFault before after fault → new ≡ old
      → EndsDrawing drawing before after old new (Err (Replay fault))
