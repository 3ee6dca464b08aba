-- Why an honest store refused a step.
-- Cited by Runs.
use Rattle.std.proofs.Common.{Bool, true, false}
use Rattle.std.specs.Prelude.{IsTrue}
use Rattle.kt_scenario.specs.declared.step.Step.{Step}
use Rattle.kt_model.specs.declared.error.StepError.{StepError}
use Rattle.kt_model.specs.State.{State}
use Rattle.kt_core.specs.Stepping.{IsCause}

pub cause_honest : (s : State) (step : Step) (honest : Bool) (e : StepError) → IsTrue honest → IsCause s step honest e → IsCause s step true e
cause_honest s step true e h c = c
cause_honest s step false e h c = absurd cc
