use Rattle.std.proofs.Common.{arith}
use Rattle.kt_link.proofs.Changed.{IsAt, is_at, room_was, queue_becomes, room_is, changes_only}
use Rattle.kt_tuple.proofs.Shared.{on_ok}
use Rattle.kt_link.proofs.links.Links.reserve.Goals as goal

pub returns-clause-queue : goal.returns-clause-queue
returns-clause-queue g c =
    let h : IsAt c.args.self.now c.self.inside.workers c.self.inside.shards c.self.inside.queues.items c.args.from c.args.to c.unwrap-place.result =
    is_at _ _ _ _ _ _ c.place.result c.unwrap-place.result c.self.view_is c.place.ensures.value c.unwrap-place.ensures c.place.ensures.within in
    queue_becomes _ _ _ _ _ _ _ c.index_mut.result.now c.reserve.new.self (λ l. l) h c.index_mut.ensures.value c.reserve.ensures.items

pub returns-clause-room : goal.returns-clause-room
returns-clause-room g c =
    let h : IsAt c.args.self.now c.self.inside.workers c.self.inside.shards c.self.inside.queues.items c.args.from c.args.to c.unwrap-place.result =
    is_at _ _ _ _ _ _ c.place.result c.unwrap-place.result c.self.view_is c.place.ensures.value c.unwrap-place.ensures c.place.ensures.within in
    on_ok c.reserve.result (λ fits. omega (arith, fits, room_is _ _ _ _ _ _ _ c.reserve.new.self h)) c.reserve.ensures.ok

pub returns-clause-kept : goal.returns-clause-kept
returns-clause-kept g c =
    let h : IsAt c.args.self.now c.self.inside.workers c.self.inside.shards c.self.inside.queues.items c.args.from c.args.to c.unwrap-place.result =
    is_at _ _ _ _ _ _ c.place.result c.unwrap-place.result c.self.view_is c.place.ensures.value c.unwrap-place.ensures c.place.ensures.within in
    omega (
      arith,
      room_is _ _ _ _ _ _ _ c.reserve.new.self h,
      room_was _ _ _ _ _ _ _ c.index_mut.result.now h c.index_mut.ensures.value,
      c.reserve.ensures.capacity,
      c.reserve.ensures.len,
    )

pub returns-clause-alone : goal.returns-clause-alone
returns-clause-alone g c =
    let h : IsAt c.args.self.now c.self.inside.workers c.self.inside.shards c.self.inside.queues.items c.args.from c.args.to c.unwrap-place.result =
    is_at _ _ _ _ _ _ c.place.result c.unwrap-place.result c.self.view_is c.place.ensures.value c.unwrap-place.ensures c.place.ensures.within in
    changes_only _ _ _ _ _ _ _ c.reserve.new.self h
