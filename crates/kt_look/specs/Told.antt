-- What a text is told as, and how the telling of a trace ends, from bytes to bytes.
-- Cited by Tellings, specs/Drawing, specs/auxiliary/Endings, telling.rt, `telling::ending`, `telling::tell`,
--   `telling::write_trace`; other crates.
use Rattle.std.specs.Prelude.{◌≡◌, ℕ, List, [], ◌∷◌, Result, Ok, Err}
use Rattle.kt_scenario.specs.declared.step.Step.{Step}
use Rattle.kt_scenario.specs.Scene.{SceneModel}
use Rattle.kt_text.specs.declared.scenario.WorkKind.TheVariants as kinds
use Rattle.kt_text.specs.Faults.{Explains}
use Rattle.kt_text.specs.Reading.{lines_of, scenario_of_steps}
use Rattle.kt_text.specs.Scenario.{IsScenario}
use Rattle.kt_model.specs.Reached.{opening}
use Rattle.kt_scene.specs.Outside.{Reader, Writer}
use Rattle.kt_scene.specs.Stream.{IsAllRead, IsReadFault, WritesAll, WritesFront}
use Rattle.kt_scene.specs.declared.fault.ReplayFault.{ReplayFault}
use Rattle.kt_scene.specs.declared.fault.ReplayFault.TheVariants as faults
use Rattle.kt_tell.specs.declared.choice.Choice.{Choice}
use Rattle.kt_look.specs.declared.telling.Form.{Form}
use Rattle.kt_look.specs.declared.telling.Form.TheVariants as forms
use Rattle.kt_trace.specs.declared.traced.Traced.{Traced}
use Rattle.kt_trace.specs.declared.traced.Traced.TheVariants as entries
use Rattle.kt_tell.specs.Chosen.{told}
use Rattle.kt_trace.specs.Rows.{trace_from}
use Rattle.kt_tell.specs.Shape.{trace_json}
use Rattle.kt_tell.specs.StepLines.{step_lines}
use Rattle.kt_tell.specs.Words.{trace_text}

-- the trace of these steps in a world of this scene that is opened; the text spells them, and has their lines
abbrev pub trace_of : List ℕ → SceneModel → List Step → List Traced
trace_of text scene steps = trace_from (step_lines 1 (lines_of text).0) 1 (opening scene) steps

-- the entries that are chosen, in this form
abbrev pub form_text : Form → Choice → List Traced → List ℕ
form_text forms.Words choice all = trace_text (told choice all)
form_text forms.Json choice all = trace_json (told choice all)

abbrev pub told_text : Form → Choice → List ℕ → SceneModel → List Step → List ℕ
told_text form choice text scene steps = form_text form choice (trace_of text scene steps)

-- how the steps ended: by the one that was refused, if one was
abbrev pub end_by : List Traced → Result (Unit {0}) ReplayFault
end_by [] = Ok tt
end_by (entries.Made row ∷ later) = end_by later
end_by (entries.Refused r ∷ later) = Err (faults.Step r.number r.cause)

abbrev pub end_of : List ℕ → SceneModel → List Step → Result (Unit {0}) ReplayFault
end_of text scene steps = end_by (trace_of text scene steps)

-- the text spells a scenario of steps, which is told so, and the steps ended so
pub record IsTold (form : Form) (choice : Choice) (text told : List ℕ) (end : Result (Unit {0}) ReplayFault)
    : Type 0 where
  pub scene : SceneModel
  pub steps : List Step
  pub scenario : IsScenario text (scenario_of_steps scene steps)
  pub is : told ≡ told_text form choice text scene steps
  pub ended : end ≡ end_of text scene steps

-- why a text is not told: it is no scenario of steps, or memory is wanting
abbrev pub IsUntold : List ℕ → ReplayFault → Type 0
IsUntold text (faults.Scene line cause) = Explains kinds.Steps text line cause
IsUntold text (faults.Step at cause) = ⊥
IsUntold text (faults.Open cause) = ⊥
IsUntold text (faults.Resume cause) = ⊥
IsUntold text (faults.Report cause) = ⊥
IsUntold text faults.Memory = Unit {0}
IsUntold text faults.Read = ⊥
IsUntold text faults.Write = ⊥

-- how the telling ends. The trace of the scenario that was read is written and passed on, and the answer is how its
-- steps ended; or the writer failed, and a front of that is written; or nothing is written, because of reading, or of
-- the text, which is explained
pub data EndsTrace (form : Form) (choice : Choice) (before after : Reader) (old new : Writer)
    : Result (Unit {0}) ReplayFault → Type 0 where
  traced : {answer : Result (Unit {0}) ReplayFault} (text told : List ℕ) → IsAllRead before after text
      → IsTold form choice text told answer → WritesAll old new told
      → EndsTrace form choice before after old new answer
  unwritten : {end : Result (Unit {0}) ReplayFault} (text told : List ℕ) → IsAllRead before after text
      → IsTold form choice text told end → WritesFront old new told
      → EndsTrace form choice before after old new (Err faults.Write)
  untold : (text : List ℕ) (fault : ReplayFault) → IsAllRead before after text → IsUntold text fault → new ≡ old
      → EndsTrace form choice before after old new (Err fault)
  unread : (fault : ReplayFault) → IsReadFault before after fault → new ≡ old
      → EndsTrace form choice before after old new (Err fault)
