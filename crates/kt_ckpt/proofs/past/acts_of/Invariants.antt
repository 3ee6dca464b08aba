use Rattle.std.proofs.Common.{◌≡◌}
use Rattle.kt_ckpt.proofs.TakenLogs.{first_acts}
use Rattle.kt_ckpt.proofs.past.acts_of.Given as goal

abbrev pub invariant-loop-number : goal.invariant-loop-number
invariant-loop-number l = l.acts.items ≡ first_acts l.history.notes l.numbers l.number-index
