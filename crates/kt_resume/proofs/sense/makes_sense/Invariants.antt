use Rattle.std.proofs.Common.{take}
use Rattle.kt_history.specs.Log.{log}
use Rattle.kt_resume.proofs.Senses.{AreCaused}
use Rattle.kt_resume.proofs.sense.makes_sense.Given as goal

-- the causes of the acts that were looked at make sense
abbrev pub invariant-loop-number : goal.invariant-loop-number
invariant-loop-number l = AreCaused l.history.notes (take l.number-index (log l.history.notes l.fn.node))
