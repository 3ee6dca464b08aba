use Rattle.kt_sql_tables.proofs.SchemaLemmas.{four_are}
use Rattle.kt_sql_tables.proofs.schema.are_board_columns.Goals as goal
use Rattle.kt_sql_tables.proofs.schema.are_board_columns.Goals.{then-is_column, else-is_column, then-is_column-2, else-is_column-2}

pub returns-then-is_column-3 : goal.returns-then-is_column-3
returns-then-is_column-3 c =
    elim c.if-is_column-2.branch [
      | then-is_column-2 v ↦ elim c.if-is_column.branch [
        | then-is_column w ↦
            four_are c.args.columns.now _ _ _ _ _ _ _ _ c.is_column-then-is_column-3.result c.in-len4.len_at_least c.in-len4.len_below
            c.instance-item.is c.initiator-item.is c.purpose-item.is c.verdict-item.is
            (c.is_column.ensures.0 w.if-is_column.true) (w.is_column-then-is_column.ensures.0 cc) (v.is_column-then-is_column-2.ensures.0 cc)
            c.is_column-then-is_column-3.ensures
        | else-is_column w ↦ absurd cc
      ]
      | else-is_column-2 v ↦ absurd cc
    ]
