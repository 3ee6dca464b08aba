use Rattle.kt_sql_tables.proofs.SchemaLemmas.{five_are}
use Rattle.kt_sql_tables.proofs.schema.are_node_columns.Goals as goal
use Rattle.kt_sql_tables.proofs.schema.are_node_columns.Goals.{then-is_column, else-is_column, then-is_column-2, else-is_column-2}
use Rattle.kt_sql_tables.proofs.schema.are_node_columns.Goals.{then-is_column-3, else-is_column-3}

pub returns-then-is_column-4 : goal.returns-then-is_column-4
returns-then-is_column-4 c =
    elim c.if-is_column-3.branch [
      | then-is_column-3 u ↦ elim c.if-is_column-2.branch [
        | then-is_column-2 v ↦ elim c.if-is_column.branch [
          | then-is_column w ↦
              five_are c.args.columns.now _ _ _ _ _ _ _ _ _ _ c.is_column-then-is_column-4.result c.in-len5.len_at_least c.in-len5.len_below
              c.id-item.is c.incarnation-item.is c.permanent-item.is c.tentative-item.is c.instance-item.is
              (c.is_column.ensures.0 w.if-is_column.true) (w.is_column-then-is_column.ensures.0 cc) (v.is_column-then-is_column-2.ensures.0 cc)
              (u.is_column-then-is_column-3.ensures.0 cc) c.is_column-then-is_column-4.ensures
          | else-is_column w ↦ absurd cc
        ]
        | else-is_column-2 v ↦ absurd cc
      ]
      | else-is_column-3 u ↦ absurd cc
    ]
