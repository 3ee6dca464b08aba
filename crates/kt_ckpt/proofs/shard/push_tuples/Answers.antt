use Rattle.std.proofs.Common.{subst}
use Rattle.std.proofs.lemmas.List.Elements.{All-more}
use Rattle.kt_ckpt.specs.Tuple.{IsTuple, tuple_bytes}
use Rattle.kt_ckpt.proofs.Loop.{appended}
use Rattle.kt_ckpt.proofs.shard.push_tuples.Goals as goal

pub loop-tuple-preserved : goal.loop-tuple-preserved
loop-tuple-preserved c = record {
  written = appended tuple_bytes c.args.tuples.now c.loop-tuple.tuple-index c.tuple-item.result _ _ _ c.loop-tuple-test.true c.tuple-item.is
      c.loop-tuple.invariant.written c.in_ok-push_tuple.ensures.ok;
  held = All-more IsTuple c.args.tuples.now c.loop-tuple.tuple-index c.tuple-item.result c.loop-tuple-test.true c.loop-tuple.invariant.held
      (subst IsTuple c.tuple-item.is c.in_ok-push_tuple.ensures.held);
}
