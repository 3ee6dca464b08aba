use Rattle.std.proofs.Common.{ℕ, List, ◌++◌, ◌∷◌, [], take, get_or, sym, subst, arith}
use Rattle.std.proofs.lemmas.List.{take_more}
use Rattle.std.proofs.lemmas.List.Elements.{Contains-get_or}
use Rattle.kt_history.specs.declared.mark.Mark.{Mark}
use Rattle.kt_history.proofs.MarkSteps.{UnmarkedUpTo, UnmarkedUpTo-push}
use Rattle.kt_history.proofs.mark.unmark.Goals as goal

pub unmark_one-requires-clause-positive : goal.unmark_one-requires-clause-positive
unmark_one-requires-clause-positive c =
    (c.requires _ (Contains-get_or c.args.numbers.now c.loop-number.number-index 0 c.loop-number-test.true)).0

pub unmark_one-requires-clause-within : goal.unmark_one-requires-clause-within
unmark_one-requires-clause-within c =
    let within = c.requires _ (Contains-get_or c.args.numbers.now c.loop-number.number-index 0 c.loop-number-test.true) in
    omega (arith, within.1, c.loop-number.invariant.lengths)

pub loop-number-preserved : goal.loop-number-preserved
loop-number-preserved c =
    let numbers = c.args.numbers.now in
    let i = c.loop-number.number-index in
    let within = c.requires _ (Contains-get_or numbers i 0 c.loop-number-test.true) in
    let P : List ℕ → Type 0 = λ xs. UnmarkedUpTo xs c.args.marks.now c.unmark_one.new.marks in
    let Q : List Mark → Type 0 = λ ms. UnmarkedUpTo (take i numbers ++ get_or numbers i 0 ∷ []) c.args.marks.now ms in
    subst P (sym (take_more numbers i 0 c.loop-number-test.true))
    (subst Q (sym c.unmark_one.ensures) (UnmarkedUpTo-push (take i numbers)
    (get_or numbers i 0) c.args.marks.now c.loop-number.marks c.loop-number.invariant within.0 within.1))
