use Rattle.std.proofs.Common.{◌≡◌, length}
use Rattle.kt_state.proofs.Sieving.{turning}
use Rattle.kt_state.proofs.updating.sieve.Given as goal

abbrev pub invariant-loop : goal.invariant-loop
invariant-loop l = (l.kept.items ≡ turning l.from l.label l.fn.kept.items l.counter) × (l.end ≡ length l.fn.kept.items)
