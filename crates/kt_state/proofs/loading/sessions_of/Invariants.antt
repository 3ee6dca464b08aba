use Rattle.std.proofs.Common.{◌≡◌, map}
use Rattle.kt_state.specs.Labels.{numbers}
use Rattle.kt_state.specs.State.{session_with}
use Rattle.kt_state.proofs.loading.sessions_of.Given as goal

abbrev pub invariant-loop-worker : goal.invariant-loop-worker
invariant-loop-worker l = l.made.items ≡ map (session_with l.waiting l.cached) (numbers 0 l.worker)
