use Rattle.kt_summary.proofs.Noting.{NotedUpTo}
use Rattle.kt_summary.proofs.strikes.note.Given as goal

abbrev pub invariant-loop-place : goal.invariant-loop-place
invariant-loop-place l = NotedUpTo l.lines l.number l.initial.found l.found l.place
