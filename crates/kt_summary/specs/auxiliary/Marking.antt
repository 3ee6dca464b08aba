-- What the code keeps of each fault line, step after step.
-- Cited by Noting, strikes.rt, `strikes::struck`, `strikes::unstruck`.
use Rattle.std.specs.Prelude.{◌≡◌, ℕ, Bool, true, false, List, length, Option, None, Some, slice_get}
use Rattle.kt_scenario.specs.declared.step.Step.{Step}
use Rattle.kt_scenario.specs.declared.step.Step.TheVariants.{Fail, Check}
use Rattle.kt_scenario.specs.declared.faults.FaultLine.{FaultLine}
use Rattle.kt_summary.specs.declared.strikes.FaultEnd.{FaultEnd}

abbrev pub is_kind_of_fault : Step → Bool
is_kind_of_fault (Fail p) = true
is_kind_of_fault (Check p) = true
is_kind_of_fault step = false

-- the step that was known, or else this one, where the line is marked
abbrev pub first_by : Option ℕ → Bool → ℕ → Option ℕ
first_by None true number = Some number
first_by None false number = None
first_by (Some known) is_marked number = Some known

-- before the first step
abbrev pub unstruck : FaultLine → FaultEnd
unstruck line = record { fault = line.fault; by = first_by None line.is_marked 0 }

abbrev pub noted_one : FaultLine → ℕ → FaultEnd → FaultEnd
noted_one line number x = record { fault = x.fault; by = first_by x.by line.is_marked number }

-- at this place the number was noted, where the line is marked and had none
pub record IsNotedAt (lines : List FaultLine) (number : ℕ) (old : List FaultEnd)
    (place : ℕ) (x : FaultEnd) : Type 0 where
  pub line : FaultLine
  pub is_line : slice_get lines place ≡ Some line
  pub was : FaultEnd
  pub is_was : slice_get old place ≡ Some was
  pub is : x ≡ noted_one line number was

-- and at each
pub record AreNoted (lines : List FaultLine) (number : ℕ) (old new : List FaultEnd) : Type 0 where
  pub lengths : length new ≡ length old
  pub each : (place : ℕ) (x : FaultEnd) → slice_get new place ≡ Some x → IsNotedAt lines number old place x
