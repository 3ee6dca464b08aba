use Rattle.std.proofs.Common.{ap, ◌∙◌, add-one, arith}
use Rattle.kt_state.specs.auxiliary.Between.{turned_over}
use Rattle.kt_state.proofs.Sieving.{turning-next}
use Rattle.kt_state.proofs.updating.sieve.Goals as goal

pub loop-preserved : goal.loop-preserved
loop-preserved c = (
  c.turn_over.ensures.items ∙ ap (turned_over c.args.from c.args.label) c.loop.invariant.0
      ∙ rw add-one (turning-next c.args.from c.args.label c.args.kept.now.items c.loop.counter (omega (arith, c.loop-test.true, c.loop.invariant.1))),
  c.loop.invariant.1,
)
