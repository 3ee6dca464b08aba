use Rattle.std.proofs.Common.{arith}
use Rattle.std.proofs.lemmas.Result.{on_ok_weaker}
use Rattle.kt_history.proofs.Room.{room_of-from}
use Rattle.kt_history.proofs.history.History.make_room.Goals as goal

pub returns-clause-ok : goal.returns-clause-ok
returns-clause-ok c = on_ok_weaker c.reserve_row.result (λ room.
    room_of-from c.reserve.new.self c.reserve-2.new.self c.reserve_row.new.rows.items c.args.node c.index.result c.index.ensures.value
    (record {
      notes = omega (arith, c.in_ok-reserve.ensures.ok, c.in_ok-reserve.ensures.len, c.self.inside.notes.ok.0);
      marks = omega (arith, c.in_ok-reserve-2.ensures.ok, c.in_ok-reserve-2.ensures.len);
      within = omega (arith, room.0, c.reserve_row.new.rows.ok.0);
      row = room.1;
    })) c.reserve_row.ensures.ok
