use Rattle.std.proofs.Common.{◌∙◌}
use Rattle.kt_state.specs.Labels.{no_label}
use Rattle.kt_state.specs.Node.{node_number}
use Rattle.kt_state.proofs.Tables.{written}
use Rattle.kt_state.proofs.updating.write.Goals as goal

pub returns-clause-written : goal.returns-clause-written
returns-clause-written c =
    written no_label c.args.table.now.items c.from.result (node_number c.args.node) c.args.label (c.from.ensures ∙ c.number.ensures) c.requires
