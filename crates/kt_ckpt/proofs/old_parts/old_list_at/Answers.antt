use Rattle.std.proofs.Common.{arith}
use Rattle.std.proofs.lemmas.List.{length_push}
use Rattle.std.proofs.lemmas.Result.{err_from_is_err_and}
use Rattle.kt_ckpt.specs.Reading.{list_at}
use Rattle.kt_ckpt.proofs.Loop.{goes_on, ends, is_done}
use Rattle.kt_ckpt.proofs.old_parts.old_list_at.Goals as goal

pub returns-in_err-thing-clause-value : goal.returns-in_err-thing-clause-value
returns-in_err-thing-clause-value g c =
    let p = err_from_is_err_and c.from_residual.result c.from_residual.ensures.1 in
    rw (p.1, p.2) (ends g.T.Old.old_reader c.in_err-thing.field-0.0 c.loop.things.items c.args.count c.loop.counter c.loop.rest.now
    (list_at g.T.Old.old_reader c.args.count c.args.bytes.now) c.loop-test.true c.in_err-thing.ensures c.loop.invariant.so_far)

pub loop-preserved : goal.loop-preserved
loop-preserved g c = record {
  so_far = rw c.in_ok-push.ensures.items (goes_on g.T.Old.old_reader c.loop.things.items c.args.count c.loop.counter c.loop.rest.now
      c.in_ok-thing.thing c.in_ok-thing.after.now (list_at g.T.Old.old_reader c.args.count c.args.bytes.now) c.loop-test.true
      c.in_ok-thing.ensures c.loop.invariant.so_far);
  len = rw c.in_ok-push.ensures.items (omega (arith, length_push c.loop.things.items c.in_ok-thing.thing));
}

pub returns-clause-value : goal.returns-clause-value
returns-clause-value g c = is_done g.T.Old.old_reader c.loop.things.items c.args.count c.loop.counter c.loop.rest.now
    (list_at g.T.Old.old_reader c.args.count c.args.bytes.now) c.loop-test.false c.loop.invariant.so_far
