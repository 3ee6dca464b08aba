-- How the rows of one kind stand in a table, and what a query reads of a row there.
-- Cited by FoundLemmas, HeldLemmas, OldLemmas, OpenedLemmas, ReadLemmas, WriteLemmas, `old::holds_board`.
use Rattle.std.proofs.Common.{◌≡◌, ℕ, pos, ltb, Bool, List, [], ◌∷◌, refl}
use Rattle.std.specs.Prelude.{nat_lt}
use Rattle.sqlite_value.specs.declared.value.Value.TheVariants.{Null, Int}
use Rattle.sqlite_value.specs.Order.{Row, column}
use Rattle.sqlite_trees.specs.Tree.{rowid}
use Rattle.sqlite_sql.specs.Term.{Term, eval_all}
use Rattle.kt_store.specs.declared.rows.NodeRow.{NodeRow}
use Rattle.kt_store.specs.declared.rows.InstanceRow.{InstanceRow}
use Rattle.kt_tuple.specs.Node.{is_before}
use Rattle.kt_store.proofs.Shared.{IsOrder, by_node_order, by_number_order}
use Rattle.kt_sql_tables.specs.Rows.{id_of, node_given, node_shown, instance_row_given, instance_row_shown, IsNodeRow, IsInstanceRow, HoldsRows}
use Rattle.kt_sql_tables.specs.auxiliary.Showing.{id_given, id_shown, id_stored, node_stored, instance_row_stored}
use Rattle.kt_sql_tables.proofs.RowLemmas.{by_id}
use Rattle.kt_sql_tables.proofs.Texts.{id_columns, node_columns, instance_row_columns}

-- the row with the place of the key's column, which is empty
abbrev pub widened : Row → Row
widened [] = []
widened (v ∷ vs) = v ∷ Null ∷ vs

pub record Table {X : Type 0} (IsSaid : X → Type 0) : Type 0 where
  pub tree : ℕ
  pub columns : List Term
  -- the key, and the order of the rows, which is that of their keys
  pub number : X → ℕ
  pub before : X → X → Bool
  pub order : IsOrder before
  pub by_number : (a b : X) → IsSaid a → IsSaid b → before a b ≡ ltb (number a) (number b)
  -- as a query shows it, as the table keeps it, and what a query shows of any row that is kept
  pub given : X → Row
  pub stored : X → Row
  pub shown : Row → Row
  pub numbered : (x : X) → rowid (stored x) ≡ Int (pos (number x))
  pub given_number : (x : X) → rowid (given x) ≡ Int (pos (number x))
  pub same_number : (r : Row) → rowid (shown r) ≡ rowid r
  pub opens : (x : X) → widened (given x) ≡ stored x
  pub back : (x : X) → shown (stored x) ≡ given x
  pub shows : (params r : Row) → eval_all columns (params ∷ r ∷ []) ≡ shown r
  pub again : (r : Row) → shown (widened (shown r)) ≡ shown r
  pub first : (r : Row) → column r 0 ≡ column (widened (shown r)) 0

abbrev pub HoldsAll : {X : Type 0} {IsSaid : X → Type 0} → Table IsSaid → List Row → List X → Type 0
HoldsAll {X} {IsSaid} t = HoldsRows t.given t.shown IsSaid t.before

abbrev pub nodes_table : Table IsNodeRow
nodes_table = record {
  tree = 0;
  columns = node_columns;
  number = λ (r : NodeRow). id_of r.node;
  before = λ (a b : NodeRow). is_before a.node b.node;
  order = by_node_order;
  by_number = λ a b h g. by_id a.node b.node h.node g.node;
  given = node_given;
  stored = node_stored;
  shown = node_shown;
  numbered = λ r. refl;
  given_number = λ r. refl;
  same_number = λ r. refl;
  opens = λ r. refl;
  back = λ r. refl;
  shows = λ params r. refl;
  again = λ r. refl;
  first = λ r. refl;
}

-- the table of nodes, of which the key alone is asked
abbrev pub ids_table : Table IsNodeRow
ids_table = record {
  tree = 0;
  columns = id_columns;
  number = λ (r : NodeRow). id_of r.node;
  before = λ (a b : NodeRow). is_before a.node b.node;
  order = by_node_order;
  by_number = λ a b h g. by_id a.node b.node h.node g.node;
  given = id_given;
  stored = id_stored;
  shown = id_shown;
  numbered = λ r. refl;
  given_number = λ r. refl;
  same_number = λ r. refl;
  opens = λ r. refl;
  back = λ r. refl;
  shows = λ params r. refl;
  again = λ r. refl;
  first = λ r. refl;
}

abbrev pub instance_row_table : Table IsInstanceRow
instance_row_table = record {
  tree = 1;
  columns = instance_row_columns;
  number = λ (p : InstanceRow). p.instance;
  before = λ (a b : InstanceRow). nat_lt a.instance b.instance;
  order = by_number_order;
  by_number = λ a b h g. refl;
  given = instance_row_given;
  stored = instance_row_stored;
  shown = instance_row_shown;
  numbered = λ p. refl;
  given_number = λ p. refl;
  same_number = λ r. refl;
  opens = λ p. refl;
  back = λ p. refl;
  shows = λ params r. refl;
  again = λ r. refl;
  first = λ r. refl;
}
