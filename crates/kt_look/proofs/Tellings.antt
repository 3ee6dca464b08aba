-- The trace of what a text spells.
-- Cited by `telling::write_telling`, `telling::write_told`, `telling::write_trace`.
use Rattle.std.proofs.Common.{◌≡◌, ℕ, List, Result, Err, sym, ap, subst, ◌∙◌}
use Rattle.kt_scenario.specs.declared.step.Step.{Step}
use Rattle.kt_scenario.specs.Scene.{SceneModel}
use Rattle.kt_text.specs.declared.scenario.WorkKind.TheVariants as kinds
use Rattle.kt_text.specs.Reading.{lines_of, scenario_of_steps}
use Rattle.kt_text.specs.Scenario.{IsScenario}
use Rattle.kt_text.specs.Work.{Work, Faults, Steps, kind_of, steps_of}
use Rattle.kt_model.specs.Reached.{opening}
use Rattle.kt_model.specs.State.{State}
use Rattle.kt_scene.specs.Outside.{Reader, Writer}
use Rattle.kt_scene.specs.Stream.{IsAllRead, WritesAll, WritesFront}
use Rattle.kt_scene.specs.declared.fault.ReplayFault.{ReplayFault}
use Rattle.kt_scene.specs.declared.fault.ReplayFault.TheVariants as faults
use Rattle.kt_tell.specs.declared.choice.Choice.{Choice}
use Rattle.kt_look.specs.declared.telling.Form.{Form}
use Rattle.kt_trace.specs.declared.traced.Traced.{Traced}
use Rattle.kt_trace.specs.Rows.{trace_from}
use Rattle.kt_tell.specs.StepLines.{step_lines}
use Rattle.kt_look.specs.Told.{EndsTrace, IsTold, end_of, told_text, trace_of, traced, untold, unwritten}
use Rattle.kt_look.specs.auxiliary.Endings.{EndsTelling, EndsWriting, all_written, front_written, is_cut_off, is_untold, is_written}

-- a text that spells a scenario with these steps
steps-spelled : (text : List ℕ) (scene : SceneModel) (work : Work) → kind_of work ≡ kinds.Steps → IsScenario text (record { scene = scene; work = work })
    → IsScenario text (scenario_of_steps scene (steps_of work))
steps-spelled text scene (Steps given) kind scenario = scenario
steps-spelled text scene (Faults lines) kind scenario = absurd (apart kind)
  where
    apart : kinds.Faults ≡ kinds.Steps → ⊥
    apart e = cc (e)

pub is_told : (form : Form) (choice : Choice) (text told : List ℕ) (end : Result (Unit {0}) ReplayFault) (scene : SceneModel) (work : Work)
    (steps : List Step) → kind_of work ≡ kinds.Steps → IsScenario text (record { scene = scene; work = work }) → steps ≡ steps_of work
    → told ≡ told_text form choice text scene steps → end ≡ end_of text scene steps
    → IsTold form choice text told end
is_told form choice text told end scene work steps kind scenario are is ended = record {
  scene = scene;
  steps = steps_of work;
  scenario = steps-spelled text scene work kind scenario;
  is = is ∙ ap (told_text form choice text scene) are;
  ended = ended ∙ ap (end_of text scene) are;
}

-- the trace from the world that was opened, with the lines of the text
pub trace_is : (text lines : List ℕ) (scene : SceneModel) (s : State) (steps : List Step) (all : List Traced) → lines ≡ step_lines 1 (lines_of text).0
    → s ≡ opening scene → all ≡ trace_from lines 1 s steps → all ≡ trace_of text scene steps
trace_is text lines scene s steps all on begins are =
    are ∙ ap (λ (l : List ℕ). trace_from l 1 s steps) on ∙ ap (λ (t : State). trace_from (step_lines 1 (lines_of text).0) 1 t steps) begins

-- ---- how the telling ends

-- what is told is written
pub writing_done : (told bytes : List ℕ) (end : Result (Unit {0}) ReplayFault) (old new : Writer) → bytes ≡ told → WritesAll old new bytes
    → EndsWriting told end old new end
writing_done told bytes end old new is all = all_written (subst (WritesAll old new) is all)

-- or a front of it
pub writing_failed : (told bytes : List ℕ) (end : Result (Unit {0}) ReplayFault) (old new : Writer) (fault : ReplayFault) → bytes ≡ told
    → fault ≡ faults.Write → WritesFront old new bytes → EndsWriting told end old new (Err fault)
writing_failed told bytes end old new fault is failed front =
    subst (λ (f : ReplayFault). EndsWriting told end old new (Err f)) (sym failed) (front_written (subst (WritesFront old new) is front))

-- the text is told, and that is written
pub ends_telling : (form : Form) (choice : Choice) (text told : List ℕ) (end : Result (Unit {0}) ReplayFault) (old new : Writer)
    {answer : Result (Unit {0}) ReplayFault} → IsTold form choice text told end → EndsWriting told end old new answer
    → EndsTelling form choice text old new answer
ends_telling form choice text told end old new is (all_written all) = is_written told is all
ends_telling form choice text told end old new is (front_written front) = is_cut_off told is front

-- the text was read, and is told so
ends_trace : (form : Form) (choice : Choice) (before after : Reader) (text : List ℕ) (old new : Writer) {answer : Result (Unit {0}) ReplayFault}
    → IsAllRead before after text → EndsTelling form choice text old new answer → EndsTrace form choice before after old new answer
ends_trace form choice before after text old new read (is_written told is all) = traced text told read is all
ends_trace form choice before after text old new read (is_cut_off told is front) = unwritten text told read is front
ends_trace form choice before after text old new read (is_untold fault is same) = untold text fault read is same

-- the same where the text is read by another name
pub ends_trace_as : (form : Form) (choice : Choice) (before after : Reader) (text same : List ℕ) (old new : Writer) (answer : Result (Unit {0}) ReplayFault)
    → same ≡ text → IsAllRead before after text → EndsTelling form choice same old new answer → EndsTrace form choice before after old new answer
ends_trace_as form choice before after text same old new answer is read ends =
    ends_trace form choice before after text old new read (subst (λ (t : List ℕ). EndsTelling form choice t old new answer) is ends)
