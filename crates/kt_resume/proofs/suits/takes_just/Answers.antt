use Rattle.std.proofs.Common.{◌≡◌, ◌∙◌, ◌+◌, ◌++◌, ◌<◌, ◌≤◌, ◌∷◌, [], ℕ, List, IsTrue, Contains, IsPermutation, ap, sym, subst, take, drop, length, get_or}
use Rattle.std.proofs.Common.{arith, append_assoc, take-append-drop}
use Rattle.std.proofs.lemmas.Bool.{false≢true}
use Rattle.std.proofs.lemmas.List.{take_all, take_more}
use Rattle.std.proofs.lemmas.List.Sorted.{IsPermutation-pop_more}
use Rattle.kt_tuple.specs.declared.tuple.Tuple.{Tuple}
use Rattle.kt_resume.proofs.Suited.{bag-apart, bag-end}
use Rattle.kt_resume.proofs.suits.takes_just.Goals as goal

pub returns-then-not-branch : goal.returns-then-not-branch
returns-then-not-branch c =
    let xs = c.args.tuples.now in
    let i = c.loop-tuple.tuple-index in
    let u = c.tuple-item.result in
    let front = take i xs in
    let later = drop (i + 1) xs in
    let split : xs ≡ front ++ (u ∷ later) =
    sym (take-append-drop (i + 1) xs) ∙ ap (λ (l : List Tuple). l ++ later)
    (take_more xs i u c.loop-tuple-test.true ∙ ap (λ (v : Tuple). front ++ v ∷ []) (sym c.tuple-item.is))
    ∙ append_assoc front (u ∷ []) later in
    let gone : ¬ Contains c.loop-tuple.left.tuples u = λ there. false≢true (sym c.if-not-branch.true ∙ c.in_ok-take_equal.ensures.there.1 there) in (
      λ h. absurd (false≢true h),
      λ whole. absurd (bag-apart c.args.left.now.tuples xs front c.loop-tuple.left.tuples later u c.loop-tuple.invariant split gone whole),
    )

pub loop-tuple-preserved : goal.loop-tuple-preserved
loop-tuple-preserved c =
    let xs = c.args.tuples.now in
    let i = c.loop-tuple.tuple-index in
    let u = c.tuple-item.result in
    let front = take i xs in
    let new = c.take_equal.new.bag.tuples in
    let more : take (i + 1) xs ≡ front ++ u ∷ [] =
    take_more xs i u c.loop-tuple-test.true ∙ ap (λ (v : Tuple). front ++ v ∷ []) (sym c.tuple-item.is) in
    subst (λ (l : List Tuple). IsPermutation c.args.left.now.tuples (l ++ new)) (sym more)
    (IsPermutation-pop_more c.args.left.now.tuples front c.loop-tuple.left.tuples new u c.loop-tuple.invariant
    (c.in_ok-take_equal.ensures.left c.if-not-branch.false))

pub returns : goal.returns
returns c =
    let xs = c.args.tuples.now in
    let i = c.loop-tuple.tuple-index in
    let past = c.loop-tuple-test.false in
    let all : take i xs ≡ xs = take_all i xs (omega (arith, past)) in
    let so_far : IsPermutation c.args.left.now.tuples (xs ++ c.loop-tuple.left.tuples) =
    subst (λ (l : List Tuple). IsPermutation c.args.left.now.tuples (l ++ c.loop-tuple.left.tuples)) all c.loop-tuple.invariant in
    let end = bag-end c.args.left.now.tuples xs c.loop-tuple.left.tuples so_far in
    (λ h. end.0 (c.is_empty.ensures.0 h), λ whole. c.is_empty.ensures.1 (end.1 whole))
