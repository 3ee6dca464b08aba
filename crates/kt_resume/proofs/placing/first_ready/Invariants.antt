use Rattle.std.proofs.Common.{◌≡◌, drop}
use Rattle.kt_resume.specs.auxiliary.Next.{first_in}
use Rattle.kt_resume.proofs.placing.first_ready.Given as goal

-- none of those that were looked at can be placed
abbrev pub invariant-loop-at : goal.invariant-loop-at
invariant-loop-at l = first_in l.history.notes (drop l.at l.logs) ≡ first_in l.history.notes l.logs
