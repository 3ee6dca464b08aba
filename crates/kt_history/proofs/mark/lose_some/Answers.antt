use Rattle.std.proofs.Common.{◌-◌, get_or, ◌∙◌, arith}
use Rattle.kt_history.proofs.MarkSteps.{HasLost-from, HasLost-counted, lost_among-split, lost_among-part, lost_among-at_most}
use Rattle.kt_history.proofs.mark.lose_some.Goals as goal

pub unmark-requires : goal.unmark-requires
unmark-requires c = λ n k.
    let within = c.requires.numbers.within n k in
    (within.0, omega (arith, within.1, c.requires.marks_of.lengths))

pub overflow_sub-result : goal.overflow_sub-result
overflow_sub-result c =
    let n = get_or c.args.numbers.now 0 0 - 1 in
    let before = c.count_lost-before.ensures ∙ lost_among-part n c.args.notes.now c.args.marks.now in
    omega (arith, lost_among-split n c.args.notes.now c.args.marks.now c.requires.marks_of.lengths, before, c.requires.lost)

pub overflow_add-result : goal.overflow_add-result
overflow_add-result c =
    let n = get_or c.args.numbers.now 0 0 - 1 in
    let lost = HasLost-from _ _ _ _ _ c.requires.numbers c.requires.marks_of c.unmark.ensures c.renew.ensures in
    let before = c.count_lost-before.ensures ∙ lost_among-part n c.args.notes.now c.args.marks.now in
    let after = c.count_lost.ensures ∙ lost_among-part n c.args.notes.now c.renew.new.marks in
    omega (
      arith,
      HasLost-counted _ _ _ _ _ _ _ lost c.requires.numbers c.requires.marks_of c.requires.lost before after,
      lost_among-at_most c.args.notes.now c.renew.new.marks,
    )

pub returns-clause-marks : goal.returns-clause-marks
returns-clause-marks c = HasLost-from _ _ _ _ _ c.requires.numbers c.requires.marks_of c.unmark.ensures c.renew.ensures

pub returns-clause-lost : goal.returns-clause-lost
returns-clause-lost c =
    let n = get_or c.args.numbers.now 0 0 - 1 in
    let lost = HasLost-from _ _ _ _ _ c.requires.numbers c.requires.marks_of c.unmark.ensures c.renew.ensures in
    let before = c.count_lost-before.ensures ∙ lost_among-part n c.args.notes.now c.args.marks.now in
    let after = c.count_lost.ensures ∙ lost_among-part n c.args.notes.now c.renew.new.marks in
    HasLost-counted _ _ _ _ _ _ _ lost c.requires.numbers c.requires.marks_of c.requires.lost before after
