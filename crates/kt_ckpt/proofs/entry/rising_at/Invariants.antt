use Rattle.std.proofs.Common.{◌≡◌, ◌-◌}
use Rattle.kt_ckpt.specs.Reading.{rising_at}
use Rattle.kt_ckpt.proofs.Loop.{with_front}
use Rattle.kt_ckpt.proofs.entry.rising_at.Given as goal

abbrev pub invariant-loop : goal.invariant-loop
invariant-loop g l =
    with_front l.entries.items (rising_at g.E.Entry.reader l.least (l.count - l.counter) l.rest) ≡ rising_at g.E.Entry.reader 1 l.count l.bytes
