use Rattle.std.proofs.Common.{◌≡◌, length}
use Rattle.kt_store.specs.declared.rows.NodeRow.{NodeRow}
use Rattle.kt_sql_tables.specs.Rows.{IsNodeRow, node_given}
use Rattle.kt_sql_tables.proofs.AnswerLemmas.{through_ok}
use Rattle.kt_sql_tables.proofs.RowLemmas.{shown_given}
use Rattle.kt_sql_tables.proofs.records.NodeRowRecord.read.Goals as goal

pub returns-clause-found : goal.returns-clause-found
returns-clause-found c =
    through_ok c.node_row.result _ (λ (r : NodeRow). IsNodeRow r × (length c.args.row.now ≡ 5 → c.args.row.now ≡ node_given r))
    (λ r h. (h.0, λ width. shown_given c.args.row.now r h.1 width)) c.node_row.ensures.found
