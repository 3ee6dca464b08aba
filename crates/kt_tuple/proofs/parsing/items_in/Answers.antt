use Rattle.std.proofs.Common.{◌∙◌}
use Rattle.kt_tuple.proofs.Made.{none_read, last_made, unfollowed_made, made_goes_on, made_enough}
use Rattle.kt_tuple.proofs.parsing.items_in.Goals as goal

pub returns-in-Err : goal.returns-in-Err
returns-in-Err g c =
    none_read g.I.Item.reader g.I.Item.of_spelling c.loop.counter c.loop.rest.now c.loop.items.items _ c.loop-test.true c.loop.invariant _
    c.in-Err.ensures

pub returns-in-Ok-None : goal.returns-in-Ok-None
returns-in-Ok-None g c =
    c.in_ok-push_item.ensures
    ∙ last_made g.I.Item.reader g.I.Item.of_spelling c.loop.counter c.loop.rest.now c.loop.items.items _ c.loop-test.true c.loop.invariant _ _
    c.in-Ok-item_at.ensures (rw c.in-Ok-None.field-0-is at c.in-Ok-None.ensures)

pub returns-in-Err-after_place : goal.returns-in-Err-after_place
returns-in-Err-after_place g c =
    c.in_ok-push_item.ensures
    ∙ unfollowed_made g.I.Item.reader g.I.Item.of_spelling c.loop.counter c.loop.rest.now c.loop.items.items _ c.loop-test.true c.loop.invariant _ _ _
    c.in-Ok-item_at.ensures c.in-Err-after_place.ensures

pub loop-preserved : goal.loop-preserved
loop-preserved g c =
    rw c.in_ok-push_item.ensures
    (made_goes_on g.I.Item.reader g.I.Item.of_spelling c.loop.counter c.loop.rest.now c.loop.items.items _ c.loop-test.true c.loop.invariant _ _ _
    c.in-Ok-item_at.ensures (rw c.in-Ok-Some.field-0-is at c.in-Ok-Some.ensures))

pub returns : goal.returns
returns g c = made_enough g.I.Item.reader g.I.Item.of_spelling c.loop.counter c.loop.rest.now c.loop.items.items _ c.loop-test.false c.loop.invariant
