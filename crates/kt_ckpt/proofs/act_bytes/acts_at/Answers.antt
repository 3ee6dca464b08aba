use Rattle.std.proofs.Common.{arith}
use Rattle.std.proofs.lemmas.List.{length_push}
use Rattle.std.proofs.lemmas.Result.{err_from_is_err_and}
use Rattle.kt_ckpt.specs.Reading.{list_at}
use Rattle.kt_ckpt.specs.Acts.{act_at}
use Rattle.kt_ckpt.proofs.Loop.{goes_on, ends, is_done}
use Rattle.kt_ckpt.proofs.ActFields.{shaped}
use Rattle.kt_ckpt.proofs.act_bytes.acts_at.Goals as goal

pub returns-in_err-act-clause-value : goal.returns-in_err-act-clause-value
returns-in_err-act-clause-value c =
    let p = err_from_is_err_and c.from_residual.result c.from_residual.ensures.1 in
    rw (p.1, p.2) (ends (act_at c.args.node) c.in_err-act.field-0.0 c.loop.acts.items c.args.count c.loop.counter c.loop.rest.now
    (list_at (act_at c.args.node) c.args.count c.args.bytes.now) c.loop-test.true c.in_err-act.ensures c.loop.invariant.so_far)

pub loop-preserved : goal.loop-preserved
loop-preserved c = record {
  so_far = rw c.in_ok-push.ensures.items (goes_on (act_at c.args.node) c.loop.acts.items c.args.count c.loop.counter c.loop.rest.now c.in_ok-act.act
      c.in_ok-act.after.now (list_at (act_at c.args.node) c.args.count c.args.bytes.now) c.loop-test.true c.in_ok-act.ensures c.loop.invariant.so_far);
  len = rw c.in_ok-push.ensures.items (omega (arith, length_push c.loop.acts.items c.in_ok-act.act));
}

pub returns-clause-value : goal.returns-clause-value
returns-clause-value c = is_done (act_at c.args.node) c.loop.acts.items c.args.count c.loop.counter c.loop.rest.now
    (list_at (act_at c.args.node) c.args.count c.args.bytes.now) c.loop-test.false c.loop.invariant.so_far

pub returns-clause-shape : goal.returns-clause-shape
returns-clause-shape c = shaped c.args.node c.requires c.args.count c.args.bytes.now (λ i. omega (arith, c.type_inv.bytes i)) c.loop.acts.items c.loop.rest.now
    (is_done (act_at c.args.node) c.loop.acts.items c.args.count c.loop.counter c.loop.rest.now
    (list_at (act_at c.args.node) c.args.count c.args.bytes.now) c.loop-test.false c.loop.invariant.so_far)
