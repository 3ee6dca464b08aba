use Rattle.kt_core.specs.auxiliary.Rows.{row_view}
use Rattle.kt_logs.proofs.Shared.{map-set_same}
use Rattle.kt_core.proofs.change.make_room_in_row.Goals as goal

pub returns-clause-same : goal.returns-clause-same
returns-clause-same c =
    map-set_same row_view c.args.nodes.now.items c.args.row c.index_mut.result.now c.make_room.new.row
    c.requires c.index_mut.ensures.value c.make_room.ensures.same
