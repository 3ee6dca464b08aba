use Rattle.std.proofs.Common.{◌≡◌}
use Rattle.std.specs.Prelude.{replicate}
use Rattle.kt_shard.specs.Session.{empty_session}
use Rattle.kt_shard.proofs.parts.empty_sessions.Given as goal

abbrev pub invariant-loop-number : goal.invariant-loop-number
invariant-loop-number l = l.sessions.items ≡ replicate l.number empty_session
