use Rattle.std.proofs.Common.{sym, ap, ◌-◌, ◌∙◌, arith}
use Rattle.kt_text.specs.Reading.{lines_of}
use Rattle.kt_explain.specs.Part.{part_after}
use Rattle.kt_explain.proofs.Parts.{behind_last, passed_all, passed_one}
use Rattle.kt_explain.proofs.part.part_of.Goals as goal

pub returns-in_default : goal.returns-in_default
returns-in_default c =
    sym (behind_last c.loop-left.part c.loop-left.left c.loop-left.rest.now c.in_default.ensures.line) ∙ c.loop-left.invariant

pub loop-left-preserved : goal.loop-left-preserved
loop-left-preserved c =
    let next = passed_one c.loop-left.part c.loop-left.left c.loop-left.rest.now c.in-Some.words.now c.in-Some.after.now (omega (arith, c.loop-left-test.true))
    c.in-Some.ensures.line in
    let part = c.behind-part.ensures in
    ap (λ p. part_after p (c.loop-left.left - 1) (lines_of c.in-Some.after.now).0) part ∙ sym next ∙ c.loop-left.invariant

pub returns : goal.returns
returns c =
    sym (passed_all c.loop-left.part c.loop-left.left (lines_of c.loop-left.rest.now).0 (omega (arith, c.loop-left-test.false))) ∙ c.loop-left.invariant
