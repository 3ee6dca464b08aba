use Rattle.std.proofs.Common.{◌≡◌, ◌-◌}
use Rattle.kt_ckpt.specs.OldState.{old_rising_at}
use Rattle.kt_ckpt.proofs.Loop.{with_front}
use Rattle.kt_ckpt.proofs.old_state.old_rising_at.Given as goal

abbrev pub invariant-loop : goal.invariant-loop
invariant-loop g l =
    with_front l.entries.items (old_rising_at g.E.Old.old_reader l.least (l.count - l.counter) l.rest) ≡ old_rising_at g.E.Old.old_reader 1 l.count l.bytes
