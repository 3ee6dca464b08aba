-- How the three tables are made.
-- Cited by CarriedTables, `tables::create_tables`.
use Rattle.std.proofs.Common.{◌≡◌, ℕ, pos, false, List, [], ◌∷◌, map, None, Ok}
use Rattle.std.proofs.Common.{refl, sym, ap, subst, ◌∙◌}
use Rattle.sqlite.specs.declared.types.Value.TheVariants.{Null, Int}
use Rattle.sqlite.specs.Order.{Row}
use Rattle.sqlite.specs.Term.{Term, lit}
use Rattle.sqlite_trees.specs.Tree.{put_row, without_rowid}
use Rattle.sqlite.specs.Table.{Table}
use Rattle.sqlite.specs.Schema.{Schema}
use Rattle.sqlite.specs.Compile.{table_defined_by}
use Rattle.sqlite.specs.Change.{created, next_tree, KeepsRows}
use Rattle.sqlite.specs.Command.TheVariants.{CreateTable}
use Rattle.sqlite.specs.Does.{Tally, lacks_sequence}
use Rattle.sqlite.specs.Effect.{Database}
use Rattle.sqlite.specs.Listing.{understood}
use Rattle.sqlite.specs.State.{State, Writes, Executes}
use Rattle.sqlite.proofs.Callers.{IsPlain, command_of, statement_of, runs_as}
use Rattle.sqlite_tied.specs.Compute.{everything}
use Rattle.kt_sql_tables.specs.Schema.{kt_schema, no_schema, node_table, board_table, meta_table}
use Rattle.kt_sql_tables.specs.Opened.{meta_shown, this_version, IsThisVersion}
use Rattle.kt_sql_tables.specs.auxiliary.Text.{create_node_text, create_board_text, create_meta_text, first_meta_text}
use Rattle.kt_store.specs.Content.{empty_content}
use Rattle.kt_sql_tables.specs.Stored.{IsStoreOf}
use Rattle.kt_sql_tables.proofs.HeldLemmas.{empty_store}
use Rattle.kt_sql_tables.proofs.PutLemmas.{went, same_value, AreNumbered, PutsInto, put_ran}
use Rattle.kt_sql_tables.proofs.WriteLemmas.{cast_meta}

abbrev pub with_node : Schema
with_node = record { tables = node_table ∷ []; indexes = []; views = [] }

abbrev pub with_board : Schema
with_board = record { tables = node_table ∷ board_table ∷ []; indexes = []; views = [] }

-- the text makes this table, in a database of this schema
record Makes (schema : Schema) (sql : List ℕ) (table : Table) : Type 0 where
  pub is : command_of (understood schema sql) ≡ CreateTable
  pub whole : statement_of sql (understood schema sql) ≡ sql
  pub plain : IsPlain (understood schema sql)
  pub defines : table_defined_by sql ≡ Ok table

make_node : Makes no_schema create_node_text node_table
unfolding understood everything
make_node = record { is = refl; whole = refl; plain = (refl, refl); defines = refl }

make_board : Makes with_node create_board_text record board_table { tree = 0 }
unfolding understood everything
make_board = record { is = refl; whole = refl; plain = (refl, refl); defines = refl }

make_meta : Makes with_board create_meta_text record meta_table { tree = 0 }
unfolding understood everything
make_meta = record { is = refl; whole = refl; plain = (refl, refl); defines = refl }

made : (old new : State) (count : ℕ) (schema : Schema) (sql : List ℕ) (table : Table) → Makes schema sql table → lacks_sequence (created schema table) ≡ false
    → old.now.schema ≡ schema
    → Executes sql [] old new (Ok count) → (new.now.schema ≡ created schema table) × (new.now.trees (next_tree schema) ≡ [])
    × KeepsRows schema.tables old.now.trees new.now.trees
made old new count schema sql table makes none has h =
    let w = subst (λ t. Writes old new None CreateTable t [] count) makes.whole (runs_as sql [] old new schema has CreateTable makes.is makes.plain count h) in
    let all = went w.changed in
    let first = went all.1 in
    let made = first.1 in
    let same : made.table ≡ table = same_value (sym made.defined ∙ makes.defines) in
    let after : first.0.schema ≡ created schema table = made.is ∙ ap (λ s. created s made.table) has ∙ ap (created schema) same in
    let plain : lacks_sequence first.0.schema ≡ false = ap lacks_sequence after ∙ none in
    let now : new.now ≡ first.0 = ap (λ (p : Tally × Database). p.1) (same_value all.2) ∙ same_value (rw plain at first.2) in (
      ap (λ (d : Database). d.schema) now ∙ after,
      ap (λ (d : Database). d.trees (next_tree schema)) now ∙ subst (λ s. first.0.trees (next_tree s) ≡ []) has made.empty,
      subst (λ (d : Database). KeepsRows schema.tables old.now.trees d.trees) (sym now)
          (subst (λ (s : Schema). KeepsRows s.tables old.now.trees first.0.trees) has made.others),
    )

pub node_made : (old new : State) (count : ℕ) → old.now.schema ≡ no_schema → Executes create_node_text [] old new (Ok count)
    → (new.now.schema ≡ with_node) × (new.now.trees 0 ≡ [])
node_made old new count has h = let it = made old new count no_schema create_node_text node_table make_node refl has h in (it.0, it.1)

pub board_made : (old new : State) (count : ℕ) → old.now.schema ≡ with_node → old.now.trees 0 ≡ [] → Executes create_board_text [] old new (Ok count)
    → (new.now.schema ≡ with_board) × (new.now.trees 0 ≡ []) × (new.now.trees 1 ≡ [])
board_made old new count has none h =
    let it = made old new count with_node create_board_text record board_table { tree = 0 } make_board refl has h in (it.0, it.2.0 ∙ none, it.1)

pub meta_made : (old new : State) (count : ℕ) → old.now.schema ≡ with_board → old.now.trees 0 ≡ [] → old.now.trees 1 ≡ []
    → Executes create_meta_text [] old new (Ok count)
    → (new.now.schema ≡ kt_schema) × (new.now.trees 0 ≡ []) × (new.now.trees 1 ≡ []) × (new.now.trees 2 ≡ [])
meta_made old new count has none bare h =
    let it = made old new count with_board create_meta_text record meta_table { tree = 0 } make_meta refl has h in (it.0, it.2.0 ∙ none, it.2.1.0 ∙ bare, it.1)

abbrev meta_terms : List Term
meta_terms = lit (Int (pos 1)) ∷ lit Null ∷ lit (Int (pos this_version)) ∷ []

abbrev pub meta_row : Row
meta_row = Int (pos 1) ∷ Null ∷ Int (pos this_version) ∷ []

pub puts_meta : PutsInto 2 first_meta_text [] meta_row (pos 1)
unfolding understood everything
puts_meta = record {
  name = meta_table.name;
  columns = meta_table.columns;
  terms = meta_terms;
  width = 3;
  at = refl;
  is = refl;
  plain = (refl, refl);
  given = refl;
  numbered = refl;
  mends = cast_meta;
  fixed = cast_meta;
}

numbered_none : (rows : List Row) → rows ≡ [] → AreNumbered rows
numbered_none rows empty = subst AreNumbered (sym empty) (λ r has. absurd has)

pub meta_put : (old new : State) (count : ℕ) → old.now.schema ≡ kt_schema → old.now.trees 0 ≡ [] → old.now.trees 1 ≡ [] → old.now.trees 2 ≡ []
    → Executes first_meta_text [] old new (Ok count)
    → IsThisVersion new.now × (new.now.trees 0 ≡ []) × (new.now.trees 1 ≡ [])
meta_put old new count has none bare empty h =
    let put = put_ran puts_meta old has (numbered_none (old.now.trees 2) empty) new count h in (
      record {
        schema = put.schema;
        meta = ap (map meta_shown) (put.rows ∙ ap (λ rows. put_row meta_row (without_rowid (pos 1) rows)) empty);
      },
      put.others 0 (λ same. absurd cc) ∙ none,
      put.others 1 (λ same. absurd cc) ∙ bare,
    )

-- all four statements, one after the other, make an empty store
pub store_made : (old one two three new : State) (a b c d : ℕ) → old.now.schema ≡ no_schema → Executes create_node_text [] old one (Ok a)
    → Executes create_board_text [] one two (Ok b) → Executes create_meta_text [] two three (Ok c) → Executes first_meta_text [] three new (Ok d)
    → IsStoreOf new.now.trees empty_content
store_made old one two three new a b c d has first second third fourth =
    let nodes = node_made old one a has first in
    let board = board_made one two b nodes.0 nodes.1 second in
    let meta = meta_made two three c board.0 board.1 board.2 third in
    let whole = meta_put three new d meta.0 meta.1 meta.2 meta.3 fourth in
    let put = put_ran puts_meta three meta.0 (numbered_none (three.now.trees 2) meta.3) new d fourth in
    empty_store new.now put.sound whole.0 whole.1 whole.2
