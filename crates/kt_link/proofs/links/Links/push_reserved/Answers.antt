use Rattle.std.proofs.Common.{◌++◌, ◌∷◌, [], arith}
use Rattle.kt_link.proofs.Changed.{IsAt, is_at, room_was, queue_becomes, room_is, changes_only}
use Rattle.kt_link.proofs.links.Links.push_reserved.Goals as goal

pub returns-clause-sent : goal.returns-clause-sent
returns-clause-sent g c =
    let h : IsAt c.args.self.now c.self.inside.workers c.self.inside.shards c.self.inside.queues.items c.args.from c.args.to c.unwrap-place.result =
    is_at _ _ _ _ _ _ c.place.result c.unwrap-place.result c.self.view_is c.place.ensures.value c.unwrap-place.ensures c.place.ensures.within in
    queue_becomes _ _ _ _ _ _ _ c.index_mut.result.now c.push_back_reserved.new.self
    (λ l. l ++ c.args.message ∷ []) h c.index_mut.ensures.value c.push_back_reserved.ensures.items

pub returns-clause-room : goal.returns-clause-room
returns-clause-room g c =
    let h : IsAt c.args.self.now c.self.inside.workers c.self.inside.shards c.self.inside.queues.items c.args.from c.args.to c.unwrap-place.result =
    is_at _ _ _ _ _ _ c.place.result c.unwrap-place.result c.self.view_is c.place.ensures.value c.unwrap-place.ensures c.place.ensures.within in
    omega (
      arith,
      c.requires.room,
      room_is _ _ _ _ _ _ _ c.push_back_reserved.new.self h,
      room_was _ _ _ _ _ _ _ c.index_mut.result.now h c.index_mut.ensures.value,
      c.push_back_reserved.ensures.capacity,
      c.push_back_reserved.ensures.len,
    )

pub returns-clause-alone : goal.returns-clause-alone
returns-clause-alone g c =
    let h : IsAt c.args.self.now c.self.inside.workers c.self.inside.shards c.self.inside.queues.items c.args.from c.args.to c.unwrap-place.result =
    is_at _ _ _ _ _ _ c.place.result c.unwrap-place.result c.self.view_is c.place.ensures.value c.unwrap-place.ensures c.place.ensures.within in
    changes_only _ _ _ _ _ _ _ c.push_back_reserved.new.self h
