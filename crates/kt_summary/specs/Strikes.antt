-- By which step a fault line struck: the first with which it is spent.
-- Cited by Marks, Noting, laws.rt, strikes.rt.
use Rattle.std.specs.Prelude.{◌≡◌, ◌≤◌, ◌-◌, ℕ, Bool, true, false, List, map, take, length, slice_get}
use Rattle.std.specs.Prelude.{Option, None, Some}
use Rattle.kt_scenario.specs.declared.step.Step.{Step}
use Rattle.kt_scenario.specs.declared.faults.Fault.{Fault}
use Rattle.kt_scenario.specs.declared.faults.FaultLine.{FaultLine}
use Rattle.kt_stage.specs.Policy.{spent_by}
use Rattle.kt_summary.specs.declared.strikes.FaultEnd.{FaultEnd}

abbrev pub is_marked_line : Option FaultLine → Bool
is_marked_line None = false
is_marked_line (Some line) = line.is_marked

-- the line with so many before it is spent once these steps were made
abbrev pub is_spent : List FaultLine → ℕ → List Step → Bool
is_spent lines place steps = is_marked_line (slice_get (spent_by lines steps) place)

-- the step of this number, counted from 1, struck: with those before it the line is not spent, and with it it is. The
-- number 0 says that the line was spent before the first step.
pub record IsStruckBy (lines : List FaultLine) (steps : List Step) (place number : ℕ) : Type 0 where
  pub within : number ≤ length steps
  pub before : 1 ≤ number → is_spent lines place (take (number - 1) steps) ≡ false
  pub after : is_spent lines place (take number steps) ≡ true

-- it struck by the step of this number, or by none
abbrev pub IsOutcome : List FaultLine → List Step → ℕ → Option ℕ → Type 0
IsOutcome lines steps place (Some number) = IsStruckBy lines steps place number
IsOutcome lines steps place None = (number : ℕ) → ¬ IsStruckBy lines steps place number

-- what the lines ask for
abbrev pub faults_asked : List FaultLine → List Fault
faults_asked lines = map (λ (line : FaultLine). line.fault) lines

abbrev pub faults_told : List FaultEnd → List Fault
faults_told found = map (λ (x : FaultEnd). x.fault) found
