use Rattle.std.proofs.Common.{drop, arith}
use Rattle.kt_link.proofs.Changed.{IsAt, is_at, room_was, queue_becomes, room_is, changes_only}
use Rattle.kt_link.proofs.links.Links.pop.Goals as goal

pub returns-clause-rest : goal.returns-clause-rest
returns-clause-rest g c =
    let h : IsAt c.args.self.now c.self.inside.workers c.self.inside.shards c.self.inside.queues.items c.args.from c.args.to c.in_ok-place.place =
    is_at _ _ _ _ _ _ c.place.result c.in_ok-place.place c.self.view_is c.place.ensures.value c.in_ok-place.was c.place.ensures.within in
    queue_becomes _ _ _ _ _ _ _ c.index_mut.result.now c.pop_front.new.self (drop 1) h c.index_mut.ensures.value c.pop_front.ensures.rest

pub returns-clause-room : goal.returns-clause-room
returns-clause-room g c =
    let h : IsAt c.args.self.now c.self.inside.workers c.self.inside.shards c.self.inside.queues.items c.args.from c.args.to c.in_ok-place.place =
    is_at _ _ _ _ _ _ c.place.result c.in_ok-place.place c.self.view_is c.place.ensures.value c.in_ok-place.was c.place.ensures.within in
    omega (
      arith,
      room_is _ _ _ _ _ _ _ c.pop_front.new.self h,
      room_was _ _ _ _ _ _ _ c.index_mut.result.now h c.index_mut.ensures.value,
      c.pop_front.ensures.capacity,
      c.pop_front.ensures.len,
    )

pub returns-clause-alone : goal.returns-clause-alone
returns-clause-alone g c =
    let h : IsAt c.args.self.now c.self.inside.workers c.self.inside.shards c.self.inside.queues.items c.args.from c.args.to c.in_ok-place.place =
    is_at _ _ _ _ _ _ c.place.result c.in_ok-place.place c.self.view_is c.place.ensures.value c.in_ok-place.was c.place.ensures.within in
    changes_only _ _ _ _ _ _ _ c.pop_front.new.self h
