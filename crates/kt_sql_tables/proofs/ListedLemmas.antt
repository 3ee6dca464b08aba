-- Trees list one schema.
-- Cited by other crates.
use Rattle.std.proofs.Common.{◌≡◌, ℕ, ◌+◌, pos, List, [], ◌∷◌, filter, refl, sym, ap, ap₂, ◌∙◌, arith}
use Rattle.std.specs.List.{AllZip}
use Rattle.sqlite_value.specs.declared.value.Value.{Value}
use Rattle.sqlite_value.specs.declared.value.Value.TheVariants.{Int, Text}
use Rattle.sqlite.specs.Order.{Row}
use Rattle.sqlite.specs.Schema.{Schema}
use Rattle.sqlite.specs.Table.{Table}
use Rattle.sqlite.specs.Tree.{Trees}
use Rattle.sqlite.specs.Effect.{Database, IsDatabase}
use Rattle.sqlite_catalog.specs.Listing.{IsIndexRow, IsSound, IsTableRow, IsViewRow, is_index_row, is_table_row, is_view_row}
use Rattle.sqlite_resolve.specs.Compile.{table_defined_by}
use Rattle.sqlite_schema.specs.declared.schema.Index.{Index}
use Rattle.sqlite_schema.specs.declared.schema.View.{View}
use Rattle.sqlite_trees.specs.Objects.{catalog_tree}
use Rattle.kt_store.specs.Content.{Content}
use Rattle.kt_sql_tables.specs.Opened.{IsThisVersion}
use Rattle.kt_sql_tables.specs.Schema.{kt_schema}
use Rattle.kt_sql_tables.specs.Stored.{IsStoreOf}
use Rattle.kt_sql_tables.proofs.PutLemmas.{same_value}

same_number : (m n : ℕ) → ◌≡◌ {A = Value} (Int (pos (m + 1))) (Int (pos (n + 1))) → m ≡ n
same_number m n is = let same : m + 1 ≡ n + 1 = cc in omega (arith, same)

same_text : (s t : List ℕ) → ◌≡◌ {A = Value} (Text s) (Text t) → s ≡ t
same_text s t is = cc

-- a row is that of one table
same_table : (row : Row) (t u : Table) → IsTableRow row t → IsTableRow row u → t ≡ u
same_table row t u h g =
    let tree = same_number t.tree u.tree (sym h.described.id ∙ g.described.id) in
    let sql = same_text h.sql g.sql (sym h.sql_is ∙ g.sql_is) in
    let made = same_value (sym h.defined.1 ∙ ap table_defined_by sql ∙ g.defined.1) in
    h.defined.2 ∙ ap₂ (λ (m : Table) (n : ℕ). let r : Table = record m { tree = n } in r) made tree ∙ sym g.defined.2

one_list : {A B : Type 0} (R : A → B → Type 0) → ((a : A) (x y : B) → R a x → R a y → x ≡ y) → (rows : List A) (xs ys : List B)
    → AllZip R rows xs → AllZip R rows ys → xs ≡ ys
one_list R one [] [] [] h g = refl
one_list R one [] [] (y ∷ ys) h g = absurd g
one_list R one [] (x ∷ xs) ys h g = absurd h
one_list R one (a ∷ rows) [] ys h g = absurd h
one_list R one (a ∷ rows) (x ∷ xs) [] h g = absurd g
one_list R one (a ∷ rows) (x ∷ xs) (y ∷ ys) h g = ap₂ ◌∷◌ (one a x y h.0 g.0) (one_list R one rows xs ys h.1 g.1)

none_listed : {A B : Type 0} (R Q : A → B → Type 0) (rows : List A) (ys : List B) → AllZip R rows [] → AllZip Q rows ys → ys ≡ []
none_listed R Q [] [] h g = refl
none_listed R Q [] (y ∷ ys) h g = absurd g
none_listed R Q (a ∷ rows) ys h g = absurd h

pub one_schema : (s : Schema) (db : Trees) → IsSound kt_schema db → IsSound s db → s ≡ kt_schema
one_schema s db h g =
    let objects = db catalog_tree in
    let tables = one_list IsTableRow same_table (filter is_table_row objects) s.tables kt_schema.tables g.lists.listed.tables h.lists.listed.tables in
    let indexes = none_listed (IsIndexRow kt_schema.tables) (IsIndexRow s.tables) (filter is_index_row objects) s.indexes h.lists.listed.indexes
    g.lists.listed.indexes in
    let views = none_listed IsViewRow IsViewRow (filter is_view_row objects) s.views h.lists.listed.views g.lists.listed.views in
    ap (λ (t : List Table). let r : Schema = record { tables = t; indexes = s.indexes; views = s.views } in r) tables
    ∙ ap₂ (λ (i : List Index) (v : List View). let r : Schema = record { tables = kt_schema.tables; indexes = i; views = v } in r) indexes views

-- a database on which a store lies has its tables, in the version that is made now
pub store_version : (db : Database) (c : Content) → IsDatabase db → IsStoreOf db.trees c → IsThisVersion db
store_version db c sound store = record { schema = one_schema db.schema db.trees store.lists sound; meta = store.meta }
