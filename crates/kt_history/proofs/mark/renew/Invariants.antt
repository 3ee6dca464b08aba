use Rattle.kt_history.proofs.MarkSteps.{RenewedUpTo}
use Rattle.kt_history.proofs.mark.renew.Given as goal

abbrev pub invariant-loop-place : goal.invariant-loop-place
invariant-loop-place l = RenewedUpTo l.notes l.initial.marks l.marks l.first l.place
