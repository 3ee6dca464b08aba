use Rattle.std.proofs.Common.{Ok, sym, ap, ◌∙◌}
use Rattle.std.proofs.lemmas.Result.{err_from_is_err_and}
use Rattle.kt_tuple.proofs.Places.{unread, unfollowed, last, goes_on, given_up}
use Rattle.kt_tuple.proofs.parsing.found_in.Goals as goal

pub returns-in_err-spelling : goal.returns-in_err-spelling
returns-in_err-spelling g c =
    let p = err_from_is_err_and c.from_residual-in_err-spelling.result c.from_residual-in_err-spelling.ensures.1 in
    rw (p.1, p.2) (unread g.I.Item.reader c.args.text.now c.loop-i.found c.loop-i.i c.loop-i.rest.now _ c.loop-i-test.true c.loop-i.invariant _
    c.in_err-spelling.ensures)

pub returns-in_err-after_place : goal.returns-in_err-after_place
returns-in_err-after_place g c =
    let p = err_from_is_err_and c.from_residual-in_err-after_place.result c.from_residual-in_err-after_place.ensures.1 in
    rw (p.1, p.2) (unfollowed g.I.Item.reader c.args.text.now c.loop-i.found c.loop-i.i c.loop-i.rest.now _ c.loop-i-test.true c.loop-i.invariant _ _ _
    c.in_ok-spelling.ensures c.in_err-after_place.ensures)

pub returns-in-None : goal.returns-in-None
returns-in-None g c =
    last g.I.Item.reader c.args.text.now c.loop-i.found c.loop-i.i c.loop-i.rest.now _ c.loop-i-test.true c.loop-i.invariant _ _
    c.in_ok-spelling.ensures (rw c.in-None.is at c.in_ok-after_place.ensures)
    ∙ sym (ap (λ found. Ok found) c.with-found.ensures)

pub loop-i-preserved : goal.loop-i-preserved
loop-i-preserved g c =
    rw c.with-found.ensures (goes_on g.I.Item.reader c.args.text.now c.loop-i.found c.loop-i.i c.loop-i.rest.now _ c.loop-i-test.true c.loop-i.invariant
    _ _ _ c.in_ok-spelling.ensures (rw c.in-Some.is at c.in_ok-after_place.ensures))

pub returns : goal.returns
returns g c = given_up g.I.Item.reader c.args.text.now c.loop-i.found c.loop-i.i c.loop-i.rest.now _ c.loop-i-test.false c.loop-i.invariant
