use Rattle.std.proofs.Common.{◌≡◌, take}
use Rattle.kt_scenario.specs.Faults.{least, open_afters}
use Rattle.kt_scenario.proofs.faults.Faults.least_after.Given as goal

-- the least number in the lines so far
abbrev pub invariant-loop-line : goal.invariant-loop-line
invariant-loop-line l = l.least ≡ least (open_afters l.kind l.node (take l.line-index l.line-items))
