use Rattle.std.proofs.Common.{sym, subst}
use Rattle.std.proofs.lemmas.List.Elements.{All-more}
use Rattle.kt_tuple.proofs.Separated.{front_of, written_more, separator_after_more}
use Rattle.kt_tuple.proofs.writing.push_in_parentheses.Goals as goal

pub returns-in_err-push_to-clause-front : goal.returns-in_err-push_to-clause-front
returns-in_err-push_to-clause-front g c =
    front_of _ _ _ _ c.loop-item.invariant.written (front_of _ _ _ _ c.in_ok-extend_from_slice.ensures.items c.push_to.ensures.front)

pub loop-item-preserved : goal.loop-item-preserved
loop-item-preserved g c =
    let items = c.args.items.now in
    let i = c.loop-item.item-index in
    let x = c.item-item.result in
    record {
      written = written_more g.T.Spelled.text_of items i x _ _ _ _ _ c.loop-item-test.true c.item-item.is c.loop-item.invariant.written
          c.loop-item.invariant.between c.in_ok-extend_from_slice.ensures.items c.in_ok-push_to.ensures.ok;
      between = sym (separator_after_more items i x c.loop-item-test.true);
      held = All-more g.T.Spelled.is_held items i x c.loop-item-test.true c.loop-item.invariant.held
          (subst g.T.Spelled.is_held c.item-item.is c.push_to.ensures.held);
    }
