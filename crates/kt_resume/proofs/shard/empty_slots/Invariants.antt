use Rattle.std.proofs.Common.{◌≡◌}
use Rattle.std.specs.Prelude.{replicate}
use Rattle.kt_resume.specs.Remade.{empty_slot}
use Rattle.kt_resume.proofs.shard.empty_slots.Given as goal

-- so many empty slots stand already
abbrev pub invariant-loop-number : goal.invariant-loop-number
invariant-loop-number l = l.slots.items ≡ replicate l.number empty_slot
