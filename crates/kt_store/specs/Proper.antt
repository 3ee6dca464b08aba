-- What the rows of a store keep, whatever was written: they are in order, and no number is above the greatest. And when
-- no number is left.
-- kt_core, kt_sql,
--   kt_stage, kt_sql_tables, kt_model.
-- Cited by Board, Nodes, Numbered, change.rt, contents.rt, instance_row.rt, store.rt,
--   `instance_row::add_instance_row`; other crates.
use Rattle.std.specs.Prelude.{◌≡◌, ◌+◌, ◌≤◌, true, nat_lt, List, All, AllPairs}
use Rattle.kt_tuple.specs.declared.node.NodeId.{NodeId}
use Rattle.kt_tuple.specs.Node.{is_before}
use Rattle.kt_store.specs.declared.rows.NodeRow.{NodeRow}
use Rattle.kt_store.specs.declared.rows.InstanceRow.{InstanceRow}
use Rattle.kt_store.specs.Content.{Content, greatest, next_instance, row_of}

-- the numbers of instances rise, and none is above the greatest
pub record IsBoard (board : List InstanceRow) : Type 0 where
  pub rising : AllPairs (λ a b. nat_lt a.instance b.instance ≡ true) board
  pub within : All (λ row. row.instance ≤ greatest) board

-- the rows of nodes rise in node order, and no incarnation is above the greatest
pub record IsNodes (nodes : List NodeRow) : Type 0 where
  pub rising : AllPairs (λ a b. is_before a.node b.node ≡ true) nodes
  pub within : All (λ row. row.incarnation ≤ greatest) nodes

pub record IsProper (c : Content) : Type 0 where
  pub nodes : IsNodes c.nodes
  pub board : IsBoard c.board

-- no number is left: for an instance, or for the next incarnation of the node
pub data IsFull (c : Content) (p : NodeId) : Type 0 where
  instances : next_instance c ≡ greatest + 1 → IsFull c p
  incarnations : (row_of c p).incarnation ≡ greatest → IsFull c p
