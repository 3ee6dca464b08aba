use Rattle.std.proofs.Common.{arith, refl}
use Rattle.kt_ckpt.proofs.Gatherings.{left-none, left-row}
use Rattle.kt_ckpt.proofs.past.keep_first.Goals as goal

pub returns-in-Some : goal.returns-in-Some
returns-in-Some c = λ p.
    let within = c.in-Some.ensures.variant.0 refl in
    let ok = c.args.gathered.now.ok.0 in
    left-row c.args.gathered.now.items c.args.node c.args.keep c.index.result c.in-Some.acts.now c.first_or_none.result c.index.ensures.value
    (omega (arith, within, ok)) c.in-Some.ensures.value c.first_or_none.ensures p

pub returns-in_default : goal.returns-in_default
returns-in_default c = λ p.
    let ok = c.args.gathered.now.ok.0 in
    let at = c.index.ensures.value in
    left-none c.args.gathered.now.items c.args.node c.args.keep (λ lt. let there = c.in_default.ensures.variant.1 (omega (arith, lt, ok, at)) in absurd cc) p
