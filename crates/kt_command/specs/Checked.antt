-- How the reading of a text ends that is to be read and nothing else.
-- Cited by Checkings, checking.rt, specs/Opened, `checking::check_text`.
use Rattle.std.specs.Prelude.{◌≡◌, ℕ, nat_lt, if◌then◌else◌, Bool, true, false, List, codes, length}
use Rattle.kt_text.specs.declared.fault.SceneFault.{SceneFault}
use Rattle.kt_text.specs.declared.fault.SceneError.{SceneError}
use Rattle.kt_text.specs.declared.fault.SceneError.TheVariants as causes
use Rattle.kt_text.specs.declared.scenario.WorkKind.TheVariants as kinds
use Rattle.kt_text.specs.Faults.{Explains}
use Rattle.kt_text.specs.Reading.{ScenarioModel}
use Rattle.kt_text.specs.Scenario.{IsScenario}
use Rattle.kt_text.specs.Work.{Work, Steps, Faults}
use Rattle.kt_scene.specs.Outside.{Reader, Writer}
use Rattle.kt_scene.specs.Report.{count_line}
use Rattle.kt_scene.specs.Stream.{IsAllRead, IsReadFault, WritesAll, WritesFront}
use Rattle.kt_scene.specs.declared.fault.ReplayFault.{ReplayFault}
use Rattle.kt_scene.specs.declared.fault.ReplayFault.TheVariants.{Scene}
use Rattle.kt_command.specs.Status.{status_of}

-- the line that says what work it is, and how much
abbrev pub checked_line : Work → List ℕ
checked_line (Steps steps) = count_line (codes "steps ") (length steps)
checked_line (Faults lines) = count_line (codes "faults ") (length lines)

-- the line is that of the scenario that the text spells
pub record IsChecked (text line : List ℕ) : Type 0 where
  pub model : ScenarioModel
  pub scenario : IsScenario text model
  pub is : line ≡ checked_line model.work

abbrev pub is_want : SceneError → Bool
is_want causes.OutOfMemory = true
is_want cause = false

-- of the fault that a text has as steps, and of that which it has as fault lines, the one that is told: want of memory,
-- or else the one of the later line, and of two on one line the first
abbrev pub told_of : SceneFault → SceneFault → SceneFault
told_of steps faults =
    if is_want steps.cause then steps
    else if is_want faults.cause then faults
    else if nat_lt steps.line faults.line then faults
    else steps

-- the text has a fault as steps and one as fault lines, and this is the one that is told
pub record IsMisread (text : List ℕ) (fault : ReplayFault) : Type 0 where
  pub steps : SceneFault
  pub faults : SceneFault
  pub as_steps : Explains kinds.Steps text steps.line steps.cause
  pub as_faults : Explains kinds.Faults text faults.line faults.cause
  pub told : fault ≡ Scene (told_of steps faults).line (told_of steps faults).cause

-- with 0 where the text that was read is a scenario, and the line that says so is written, and with 7 where the writer
-- failed then; with the status of the fault where the text is none, or was not read; and with 6 where memory ran out
pub data EndsChecked (before after : Reader) (old new : Writer) (n : ℕ) : Type 0 where
  done : (text line : List ℕ) → IsAllRead before after text → IsChecked text line → WritesAll old new line → n ≡ 0
      → EndsChecked before after old new n
  unwritten : (text line : List ℕ) → IsAllRead before after text → IsChecked text line → WritesFront old new line
      → n ≡ 7 → EndsChecked before after old new n
  misread : (text : List ℕ) (fault : ReplayFault) → IsAllRead before after text → IsMisread text fault → new ≡ old
      → n ≡ status_of fault → EndsChecked before after old new n
  unread : (fault : ReplayFault) → IsReadFault before after fault → new ≡ old → n ≡ status_of fault
      → EndsChecked before after old new n
  no_memory : (text : List ℕ) → IsAllRead before after text → new ≡ old → n ≡ 6 → EndsChecked before after old new n
