use Rattle.kt_link.proofs.Changed.{IsAt, is_at, queue_was, queue_is, changes_only}
use Rattle.kt_link.proofs.Outcomes.{appended, stayed}
use Rattle.kt_link.proofs.links.Links.push.Goals as goal

pub returns-clause-sent : goal.returns-clause-sent
returns-clause-sent g c =
    let h : IsAt c.args.self.now c.self.inside.workers c.self.inside.shards c.self.inside.queues.items c.args.from c.args.to c.unwrap-place.result =
    is_at _ _ _ _ _ _ c.place.result c.unwrap-place.result c.self.view_is c.place.ensures.value c.unwrap-place.ensures c.place.ensures.within in
    appended c.push_back.result _ _ _ _ c.args.message (queue_is _ _ _ _ _ _ _ c.push_back.new.self h)
    (queue_was _ _ _ _ _ _ _ c.index_mut.result.now h c.index_mut.ensures.value) c.push_back.ensures.items

pub returns-clause-alone : goal.returns-clause-alone
returns-clause-alone g c =
    let h : IsAt c.args.self.now c.self.inside.workers c.self.inside.shards c.self.inside.queues.items c.args.from c.args.to c.unwrap-place.result =
    is_at _ _ _ _ _ _ c.place.result c.unwrap-place.result c.self.view_is c.place.ensures.value c.unwrap-place.ensures c.place.ensures.within in
    changes_only _ _ _ _ _ _ _ c.push_back.new.self h

pub returns-clause-unchanged : goal.returns-clause-unchanged
returns-clause-unchanged g c =
    let h : IsAt c.args.self.now c.self.inside.workers c.self.inside.shards c.self.inside.queues.items c.args.from c.args.to c.unwrap-place.result =
    is_at _ _ _ _ _ _ c.place.result c.unwrap-place.result c.self.view_is c.place.ensures.value c.unwrap-place.ensures c.place.ensures.within in
    stayed c.push_back.result _ _ _ _ c.args.message (queue_is _ _ _ _ _ _ _ c.push_back.new.self h)
    (queue_was _ _ _ _ _ _ _ c.index_mut.result.now h c.index_mut.ensures.value) c.push_back.ensures.items
