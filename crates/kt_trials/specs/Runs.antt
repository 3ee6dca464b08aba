-- Several runs of one scenario of fault lines, each over a fresh store in memory.
-- Cited by InMemory, Told, specs/auxiliary/Telling, times.rt, `times::reports_of`; other crates.
use Rattle.std.specs.Prelude.{◌≡◌, ℕ, true, List, length, All, Some}
use Rattle.kt_scenario.specs.declared.step.Step.{Step}
use Rattle.kt_store.specs.Content.{empty_content}
use Rattle.kt_model.specs.State.{State}
use Rattle.kt_core.specs.Store.{StoreValue}
use Rattle.kt_core.specs.declared.start.Start.TheVariants as starts
use Rattle.kt_scene.specs.declared.fault.ReplayFault.{ReplayFault}
use Rattle.kt_scene.specs.declared.fault.ReplayFault.TheVariants as faults
use Rattle.kt_scene.specs.Outside.{Reader, Writer}
use Rattle.kt_scene.specs.Report.{IsReportOf}
use Rattle.kt_scene.specs.Stream.{IsAllRead, IsReadFault, WritesAll, WritesFront}
use Rattle.kt_run.specs.declared.fault.RunTextFault.{RunTextFault}
use Rattle.kt_run.specs.declared.fault.RunTextFault.TheVariants.{Text}
use Rattle.kt_run.specs.Run.{IsRunOf, IsRunTextFault}
use Rattle.kt_trials.specs.Memory.{told_of}
use Rattle.kt_trials.specs.Tally.{tally_text}

-- a store in memory on which nothing is stored, and that never refused a call
abbrev pub fresh : StoreValue
fresh = record { content = empty_content; is_honest = true; counts = record { faults = 0; wants = 0 } }

-- the text is that of a scenario of fault lines, and this is the report of a state in which a run of it ended, over a
-- fresh store
pub record IsRunReport (text report : List ℕ) : Type 0 where
  pub steps : List Step
  pub state : State
  pub run : IsRunOf starts.Open text true empty_content steps state
  pub is : IsReportOf true state report

-- these are the reports of so many runs of what was read
pub record AreReports (times : ℕ) (before after : Reader) (reports : List (List ℕ)) : Type 0 where
  pub text : List ℕ
  pub read : IsAllRead before after text
  pub each : All (IsRunReport text) reports
  pub count : length reports ≡ times

-- what is written and passed on is the tally of the reports of so many runs of what was read, and nothing else
pub record WritesTally (times : ℕ) (before after : Reader) (old new : Writer) : Type 0 where
  pub reports : List (List ℕ)
  pub are : AreReports times before after reports
  pub written : WritesAll old new (tally_text reports)

-- the writer failed, and a front of that tally is written
pub record WritesTallyFront (times : ℕ) (before after : Reader) (old new : Writer) : Type 0 where
  pub reports : List (List ℕ)
  pub are : AreReports times before after reports
  pub written : WritesFront old new (tally_text reports)

-- ---- faults

-- a run of what this text spells, over a fresh store, ends with this fault when its report goes to memory
pub record IsOneFault (text : List ℕ) (fault : RunTextFault) : Type 0 where
  pub met : RunTextFault
  pub left : StoreValue
  pub before : Reader
  pub after : Reader
  pub lent : before.bytes ≡ Some text
  pub is : IsRunTextFault starts.Open fresh left before after met
  pub told : fault ≡ told_of met

-- what several runs answer: what reading alone answers; the fault of the first run that ended with one; want of memory
-- for the reports, once all was read; or that the writer failed, once all runs had ended
pub data IsTallyFault (times : ℕ) (before after : Reader) : RunTextFault → Type 0 where
  of_reading : {fault : ReplayFault} → IsReadFault before after fault → IsTallyFault times before after (Text fault)
  of_run : {fault : RunTextFault} (text : List ℕ) → IsAllRead before after text → IsOneFault text fault
      → IsTallyFault times before after fault
  no_room : (text : List ℕ) → IsAllRead before after text → IsTallyFault times before after (Text faults.Memory)
  in_writing : (reports : List (List ℕ)) → AreReports times before after reports
      → IsTallyFault times before after (Text faults.Write)
