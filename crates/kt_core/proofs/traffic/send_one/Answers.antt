use Rattle.kt_core.proofs.Traffics.{sent-single}
use Rattle.kt_core.proofs.traffic.send_one.Goals as goal

pub returns-clause-queues : goal.returns-clause-queues
returns-clause-queues c =
    sent-single c.args.links.now c.push_reserved.new.self c.args.owner c.args.to c.args.message c.push_reserved.ensures.sent c.push_reserved.ensures.alone
