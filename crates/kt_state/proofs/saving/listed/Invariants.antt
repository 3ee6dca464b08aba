use Rattle.std.proofs.Common.{◌≡◌, map}
use Rattle.kt_state.specs.Labels.{label_at, numbers}
use Rattle.kt_state.proofs.saving.listed.Given as goal

abbrev pub invariant-loop-number : goal.invariant-loop-number
invariant-loop-number l = l.labels.items ≡ map (label_at l.table) (numbers 1 l.number)
