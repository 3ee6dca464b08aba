use Rattle.std.proofs.Common.{◌≡◌, take}
use Rattle.kt_stage.specs.Policy.{spent_by}
use Rattle.kt_stage.proofs.ending.spend_all.Given as goal

abbrev pub invariant-loop-step : goal.invariant-loop-step
invariant-loop-step l = l.faults ≡ spent_by l.initial.faults (take l.step-index l.steps)
