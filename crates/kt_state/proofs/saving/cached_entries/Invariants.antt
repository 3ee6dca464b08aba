use Rattle.std.proofs.Common.{◌≡◌}
use Rattle.std.specs.List.{flat_map}
use Rattle.kt_shard.specs.Shard.{session_of}
use Rattle.kt_state.specs.Labels.{numbers}
use Rattle.kt_state.specs.State.{entry}
use Rattle.kt_state.proofs.saving.cached_entries.Given as goal

abbrev pub invariant-loop-before : goal.invariant-loop-before
invariant-loop-before l = l.entries.items ≡ flat_map (λ worker. entry worker (session_of l.shard.state worker).cached) (numbers 1 l.before)
