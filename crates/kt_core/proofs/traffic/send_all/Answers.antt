use Rattle.std.proofs.Common.{sym, ◌∙◌}
use Rattle.kt_core.proofs.Traffics.{sending-first, sent-next, sent-all, nothing_left}
use Rattle.kt_core.proofs.traffic.send_all.Goals as goal

pub loop-to-init : goal.loop-to-init
loop-to-init c =
    sending-first c.args.links.now c.args.owner c.args.send.items c.into_iter-to-iterator.result.rest.items
    c.into_iter-to-iterator.ensures.into_iter_gives.0 c.requires.there c.requires.room

pub loop-to-preserved : goal.loop-to-preserved
loop-to-preserved c =
    sent-next c.args.links.now c.loop-to.links c.push_reserved.new.self c.args.owner c.args.send.items c.loop-to.to-iterator.rest.items
    c.next.new.self.rest.items (c.in-Some.to, c.in-Some.message) c.loop-to.invariant
    c.in-Some.ensures.steps.0 c.push_reserved.ensures.sent c.push_reserved.ensures.room c.push_reserved.ensures.alone

pub returns-clause-queues : goal.returns-clause-queues
returns-clause-queues c =
    sent-all c.args.links.now c.loop-to.links c.args.owner c.args.send.items c.loop-to.to-iterator.rest.items c.loop-to.invariant
    (nothing_left c.loop-to.to-iterator.rest.items (sym c.loop-to.to-iterator.rest.ok.0 ∙ c.in-None.ensures.steps.0))
