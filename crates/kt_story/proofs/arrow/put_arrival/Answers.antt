use Rattle.kt_story.proofs.Arriving.{has_arrived}
use Rattle.kt_story.proofs.arrow.put_arrival.Goals as goal

pub returns-in_ok-put : goal.returns-in_ok-put
returns-in_ok-put c =
    has_arrived c.args.row.now c.args.ways.now c.put.new.ways c.in-Deliver.from c.in-Deliver.to c.in-Deliver.is
    (c.is_link.ensures.0 c.if-is_link.true) c.in_ok-put.ensures.put c.in_ok-put.ensures.alone
