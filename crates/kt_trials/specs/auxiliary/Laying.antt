-- What comes before a run with random faults.
-- Cited by Behind, chaos.rt, `chaos::laid_told`, `chaos::push_remarks`.
use Rattle.std.specs.Prelude.{◌≡◌, ℕ, List}
use Rattle.kt_scenario.specs.Scene.{SceneModel}
use Rattle.kt_scenario.specs.declared.faults.Fault.{Fault}
use Rattle.kt_scenario.specs.declared.faults.FaultLine.{FaultLine}
use Rattle.kt_text.specs.Faults.{Explains}
use Rattle.kt_text.specs.Text.{fault_text, scenario_text}
use Rattle.kt_text.specs.declared.fault.SceneError.{SceneError}
use Rattle.kt_text.specs.declared.scenario.WorkKind.TheVariants as kinds
use Rattle.kt_scene.specs.declared.fault.ReplayFault.TheVariants as faults
use Rattle.kt_scene.specs.Journal.{remark}
use Rattle.kt_scene.specs.Outside.{Reader}
use Rattle.kt_run.specs.declared.fault.RunTextFault.{RunTextFault}
use Rattle.kt_run.specs.declared.fault.RunTextFault.TheVariants.{Text}
use Rattle.kt_chaos.specs.Drawing.{random_faults}
use Rattle.kt_chaos.specs.declared.drawing.Chaos.{Chaos}
use Rattle.kt_trials.specs.Chaos.{IsDrawn, IsLaid, remarks_of, with_faults}

abbrev pub remark_of : FaultLine → List ℕ
remark_of line = remark (fault_text line.fault)

-- the text of the scenario with the faults that are drawn, and these faults as remarks
pub record HasRemarks (chaos : Chaos) (scene : SceneModel) (lines : List FaultLine) (text remarks : List ℕ)
    : Type 0 where
  pub added : List Fault
  pub added_are : added ≡ random_faults chaos scene
  pub text_is : text ≡ scenario_text (with_faults scene lines added)
  pub remarks_are : remarks ≡ remarks_of added

-- the same of the scenario that a text spells
pub record Lays (chaos : Chaos) (given text remarks : List ℕ) : Type 0 where
  pub added : List Fault
  pub laid : IsLaid chaos given added text
  pub remarks_are : remarks ≡ remarks_of added

-- the same of what was read
pub record IsLaidOut (chaos : Chaos) (before after : Reader) (text remarks : List ℕ) : Type 0 where
  pub added : List Fault
  pub drawn : IsDrawn chaos before after added text
  pub remarks_are : remarks ≡ remarks_of added

-- what a text answers before its run: its first fault; or want of memory
pub data IsTextUndrawn (given : List ℕ) : RunTextFault → Type 0 where
  no_scenario : {line : ℕ} {cause : SceneError} → Explains kinds.Faults given line cause
      → IsTextUndrawn given (Text (faults.Scene line cause))
  no_memory : IsTextUndrawn given (Text faults.Memory)
