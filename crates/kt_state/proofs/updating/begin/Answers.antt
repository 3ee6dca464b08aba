use Rattle.std.proofs.Common.{◌∙◌}
use Rattle.kt_state.specs.Node.{node_number}
use Rattle.kt_state.proofs.Tables.{begun}
use Rattle.kt_state.proofs.updating.begin.Goals as goal

pub returns-clause-written : goal.returns-clause-written
returns-clause-written c =
    begun c.args.table.now.items c.from-place.result (node_number c.args.node) c.index.result.now c.or.result c.args.label
    (c.from-place.ensures ∙ c.number.ensures) c.requires c.index.ensures c.or.ensures
