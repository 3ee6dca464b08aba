use Rattle.std.proofs.Common.{◌≡◌, take}
use Rattle.kt_shard.proofs.parts.copy_sessions.Given as goal

abbrev pub invariant-loop-session : goal.invariant-loop-session
invariant-loop-session l = l.copies.items ≡ take l.session-index l.sessions
