use Rattle.std.proofs.Common.{subst}
use Rattle.std.proofs.lemmas.List.Elements.{All-more}
use Rattle.kt_tuple.specs.Valid.{IsValue}
use Rattle.kt_ckpt.specs.Value.{value_bytes}
use Rattle.kt_ckpt.proofs.Loop.{appended}
use Rattle.kt_ckpt.proofs.tuple.push_values.Goals as goal

pub loop-value-preserved : goal.loop-value-preserved
loop-value-preserved c = record {
  written = appended value_bytes c.args.values.now c.loop-value.value-index c.value-item.result _ _ _ c.loop-value-test.true c.value-item.is
      c.loop-value.invariant.written c.in_ok-push_value.ensures.ok;
  held = All-more IsValue c.args.values.now c.loop-value.value-index c.value-item.result c.loop-value-test.true c.loop-value.invariant.held
      (subst IsValue c.value-item.is c.push_value.ensures.held);
}
