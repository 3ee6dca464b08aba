use Rattle.std.proofs.Common.{ap, sym, ◌∙◌, arith, cond, Bool, ℕ}
use Rattle.kt_history.proofs.MarkSteps.{lost_among-more}
use Rattle.kt_history.proofs.mark.count_lost.Goals as goal
use Rattle.kt_history.proofs.mark.count_lost.Goals.{then-is_lost, else-is_lost}

pub loop-place-preserved : goal.loop-place-preserved
loop-place-preserved c =
    let more =
    lost_among-more c.args.notes.now c.args.marks.now c.loop-place.place c.index-notes-place.result c.loop-place-test.true c.requires
    c.index-notes-place.is in
    elim c.if-is_lost.branch [
      | then-is_lost w ↦
          let f : Bool → ℕ = λ b. cond b 1 0 in
          let one = ap f (sym c.is_lost.ensures ∙ w.if-is_lost.true) in
          record {
            counted = omega (arith, more, one, w.lost-is, c.loop-place.invariant.counted);
            bound = omega (arith, w.lost-is, c.loop-place.invariant.bound);
          }
      | else-is_lost w ↦
          let f : Bool → ℕ = λ b. cond b 1 0 in
          let none = ap f (sym c.is_lost.ensures ∙ w.if-is_lost.false) in
          record {
            counted = omega (arith, more, none, w.lost-is, c.loop-place.invariant.counted);
            bound = omega (arith, w.lost-is, c.loop-place.invariant.bound);
          }
    ]
