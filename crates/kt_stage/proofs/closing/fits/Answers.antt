use Rattle.std.proofs.Common.{◌≡◌, ◌↔◌, [], IsTrue, arith}
use Rattle.std.proofs.lemmas.Grind.{common_steps}
use Rattle.kt_stage.proofs.Seats.{all-kept, kept-more, not-kept, nothing-passed}
use Rattle.kt_stage.proofs.closing.fits.Goals as goal

pub loop-before-init : goal.loop-before-init
loop-before-init c = nothing-passed c.args.node c.args.receipts.now

pub returns-in_default : goal.returns-in_default
returns-in_default c = (
  (λ e. absurd cc),
  (λ same. absurd (not-kept c.args.node c.args.steps.now c.loop-before.before _ c.args.receipts.now c.loop-before.rest.now c.loop-before-test.true
      c.loop-before.invariant c.in_default.ensures.none same)),
)

pub loop-before-preserved : goal.loop-before-preserved
loop-before-preserved c =
    kept-more c.args.node c.args.steps.now c.loop-before.before _ c.args.receipts.now c.loop-before.rest.now c.in-Some.later.now
    c.loop-before-test.true c.loop-before.invariant c.in-Some.ensures.some

pub returns : goal.returns
returns c =
    let none : IsTrue c.is_empty.result ↔ (c.loop-before.rest.now ≡ []) = grind (arith, common_steps) in
    all-kept c.args.node c.args.steps.now c.loop-before.before c.args.receipts.now c.loop-before.rest.now c.is_empty.result
    c.loop-before-test.false c.loop-before.invariant none
