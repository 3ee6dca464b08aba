use Rattle.std.proofs.Common.{◌≡◌, ℕ, ◌<◌, ◌≤◌}
use Rattle.kt_shard.specs.Session.{empty_session}
use Rattle.kt_shard.specs.Table.{at}
use Rattle.kt_resume.specs.Remade.{empty_slot}
use Rattle.kt_resume.proofs.suits.are_empty_outside.Given as goal

-- those sessions that were looked at are empty
abbrev pub invariant-loop-number : goal.invariant-loop-number
invariant-loop-number l = (k : ℕ) → k < l.number → ¬ ((1 ≤ k) × (k ≤ l.workers)) → (at empty_slot l.slots k).session ≡ empty_session
