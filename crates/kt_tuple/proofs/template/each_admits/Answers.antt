use Rattle.std.proofs.Common.{arith}
use Rattle.kt_tuple.proofs.Backwards.{still_decides, told_apart, other_lengths, none_untested}
use Rattle.kt_tuple.proofs.template.each_admits.Goals as goal

pub returns-then-places-values : goal.returns-then-places-values
returns-then-places-values c =
    other_lengths c.args.places.now c.args.values.now (λ e. omega (arith, e, c.if-places-values.true))

pub returns-then-not-admits : goal.returns-then-not-admits
returns-then-not-admits c =
    told_apart c.args.places.now c.args.values.now c.loop-left.left c.index-places-left.result c.index-values-left.result c.loop-left-test.true
    c.loop-left.invariant.0 (omega (arith, c.if-places-values.false)) c.loop-left.invariant.1 c.index-places-left.is c.index-values-left.is
    c.if-not-admits.ensures.decided

pub loop-left-preserved : goal.loop-left-preserved
loop-left-preserved c = (
  omega (arith, c.loop-left.invariant.0),
  still_decides c.args.places.now c.args.values.now c.loop-left.left c.index-places-left.result c.index-values-left.result c.loop-left-test.true
      c.loop-left.invariant.0 (omega (arith, c.if-places-values.false)) c.loop-left.invariant.1 c.index-places-left.is c.index-values-left.is
      c.if-not-admits.ensures.decided,
)

pub returns : goal.returns
returns c = none_untested c.args.places.now c.args.values.now c.loop-left.left c.loop-left-test.false c.loop-left.invariant.1
