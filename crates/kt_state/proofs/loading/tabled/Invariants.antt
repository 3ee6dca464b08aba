use Rattle.std.proofs.Common.{◌≡◌, map}
use Rattle.kt_state.specs.Labels.{listed_at, numbers}
use Rattle.kt_state.proofs.loading.tabled.Given as goal

abbrev pub invariant-loop-number : goal.invariant-loop-number
invariant-loop-number l = l.table.items ≡ map (listed_at l.labels) (numbers 0 l.number)
