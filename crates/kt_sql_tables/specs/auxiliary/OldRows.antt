-- Rows of nodes that format 1 can hold.
-- Cited by old.rt, `old::are_old`.
use Rattle.std.specs.Prelude.{◌≡◌, true, List}
use Rattle.std.specs.List.{AllByRecursion}
use Rattle.sqlite_trees.specs.Tree.{IsAscending}
use Rattle.kt_store.specs.declared.rows.NodeRow.{NodeRow}
use Rattle.kt_tuple.specs.Node.{is_before}
use Rattle.kt_sql_tables.specs.Old.{IsOldRow}

-- they are of version 1, in node order
pub record AreOldRows (nodes : List NodeRow) : Type 0 where
  pub said : AllByRecursion IsOldRow nodes
  pub rise : IsAscending (λ (a b : NodeRow). is_before a.node b.node ≡ true) nodes
