-- The cells of a row of the nodes, which carry what stays as the bytes that it is.
-- Cited by AnswerLemmas, CarriedRows, CarriedTables, CarryLemmas, CellLemmas, carrying.rt, cells.rt, changes.rt,
--   held.rt, reads.rt, specs/auxiliary/Carrying, specs/auxiliary/Cells, statements.rt, `Tables::cells_of`,
--   `Tables::put_node`, `Tables::write_both`, `carrying::put_rows`, `changes::promoted`, `statements::execute_both`;
--   other crates.
use Rattle.std.specs.Prelude.{◌≡◌, pos, [], ◌∷◌}
use Rattle.sqlite.specs.declared.types.Value.TheVariants.{Int, Blob}
use Rattle.sqlite.specs.Values.{or_null}
use Rattle.sqlite.specs.Order.{Row}
use Rattle.kt_store.specs.declared.rows.NodeRow.{NodeRow}
use Rattle.kt_sql_tables.specs.declared.number.Number.{Number}
use Rattle.kt_sql_tables.specs.declared.cells.NodeCells.{NodeCells}
use Rattle.kt_sql_tables.specs.Rows.{id_of, spelled, checkpoint_value, instance_value, node_in, IsNodeRow}

-- as they are given to a statement
abbrev pub cells_given : NodeCells → Row
cells_given c =
    Int (pos c.id) ∷ Int (pos c.incarnation.value) ∷ or_null (λ b. Blob b.items) c.permanent
    ∷ or_null (λ b. Blob b.items) c.tentative
    ∷ or_null (λ (n : Number). Int (pos n.value)) c.instance ∷ []

-- what they say of the node
unfoldable pub cells_node : NodeCells → NodeRow
cells_node c = node_in (cells_given c)

-- the cells are those of this node
pub record SpellsNode (c : NodeCells) (r : NodeRow) : Type 0 where
  pub id : c.id ≡ id_of r.node
  pub incarnation : c.incarnation.value ≡ r.incarnation
  pub permanent : or_null (λ b. Blob b.items) c.permanent ≡ spelled r.permanent
  pub tentative : or_null (λ b. Blob b.items) c.tentative ≡ checkpoint_value r.tentative
  pub instance : or_null (λ (n : Number). Int (pos n.value)) c.instance ≡ instance_value r.tentative

-- they are those of a node that is as said
pub record AreSaid (c : NodeCells) : Type 0 where
  pub said : IsNodeRow (cells_node c)
  pub spells : SpellsNode c (cells_node c)
