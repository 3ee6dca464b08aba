use Rattle.std.proofs.Common.{◌≡◌, ◌-◌, length}
use Rattle.kt_ckpt.specs.Reading.{list_at}
use Rattle.kt_ckpt.proofs.Loop.{with_front}
use Rattle.kt_ckpt.proofs.old_parts.old_list_at.Given as goal

abbrev pub invariant-loop : goal.invariant-loop
invariant-loop g l = record {
  so_far : with_front l.things.items (list_at g.T.Old.old_reader (l.count - l.counter) l.rest) ≡ list_at g.T.Old.old_reader l.count l.bytes;
  len : length l.things.items ≡ l.counter;
}
