use Rattle.std.proofs.Common.{◌≡◌, ◌-◌, length}
use Rattle.kt_ckpt.specs.Reading.{list_at}
use Rattle.kt_ckpt.specs.Acts.{act_at}
use Rattle.kt_ckpt.proofs.Loop.{with_front}
use Rattle.kt_ckpt.proofs.act_bytes.acts_at.Given as goal

abbrev pub invariant-loop : goal.invariant-loop
invariant-loop l = record {
  so_far : with_front l.acts.items (list_at (act_at l.node) (l.count - l.counter) l.rest) ≡ list_at (act_at l.node) l.count l.bytes;
  len : length l.acts.items ≡ l.counter;
}
