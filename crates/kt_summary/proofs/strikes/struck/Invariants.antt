use Rattle.kt_summary.proofs.Noting.{SoFar}
use Rattle.kt_summary.proofs.strikes.struck.Given as goal

abbrev pub invariant-loop-place : goal.invariant-loop-place
invariant-loop-place l = SoFar l.faults l.steps l.place l.left l.found.items
