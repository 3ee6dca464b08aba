use Rattle.std.proofs.Common.{◌≡◌, length}
use Rattle.kt_logs.specs.Cause.{cause_of_waiting, cause_among}
use Rattle.kt_core.proofs.causes.cause_of_waiting.Given as goal

-- what is left of the log gives what the whole log gives
abbrev pub invariant-loop-number : goal.invariant-loop-number
invariant-loop-number l = cause_among l.history.notes l.rest l.worker ≡ cause_of_waiting l.history.notes l.fn.shard l.worker

abbrev pub decreases-loop-number : goal.decreases-loop-number
decreases-loop-number l = length l.rest
