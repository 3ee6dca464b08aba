use Rattle.std.proofs.Common.{◌≡◌, ◌≤◌, ap, ◌∙◌, arith}
use Rattle.kt_explain.specs.Near.{edits}
use Rattle.kt_explain.proofs.Nearer.{nearest_kept, nearest_some}
use Rattle.kt_explain.proofs.near.+nearest_below.Goals as goal

pub returns-then-edits-bound-clause-nearest : goal.returns-then-edits-bound-clause-nearest
returns-then-edits-bound-clause-nearest t c =
    let is : c.in_ok-edits.edits ≡ edits c.args.word.now c.in-Some.first.now.now = c.in_ok-edits.ensures ∙ ap (edits c.args.word.now)
    c.as_bytes.ensures.value in
    let far : c.args.bound ≤ edits c.args.word.now c.in-Some.first.now.now =
    omega (arith, is, c.if-edits-bound.true) in
    nearest_kept c.args.word.now c.in-Some.first.now c.in-Some.later.now c.args.words.now c.args.bound c.in-Some.ensures.cases.0 far c.nearest_below.result
    c.nearest_below.ensures.below c.nearest_below.ensures.nearest

pub returns-in-Some-2-clause-nearest : goal.returns-in-Some-2-clause-nearest
returns-in-Some-2-clause-nearest t c =
    let is : c.in_ok-edits.edits ≡ edits c.args.word.now c.in-Some.first.now.now = c.in_ok-edits.ensures ∙ ap (edits c.args.word.now)
    c.as_bytes.ensures.value in
    let far : c.in_ok-edits.edits ≤ edits c.args.word.now c.in-Some.first.now.now =
    omega (arith, is) in
    nearest_some c.args.word.now c.in-Some.first.now c.in-Some.later.now c.args.words.now c.in_ok-edits.edits c.in-Some.ensures.cases.0 far
    c.in_ok-nearer.field-0
    c.in-Some-2.nearer c.in-Some-2.is c.in_ok-nearer.ensures.below c.in_ok-nearer.ensures.nearest
