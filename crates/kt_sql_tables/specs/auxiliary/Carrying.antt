-- Rows of nodes and the version, put one after the other in one transaction.
-- Cited by CarriedLoop, CarriedRows, CarriedTables, CarryLemmas, carrying.rt, `carrying::put_in_one`,
--   `carrying::put_rows`.
use Rattle.std.specs.Prelude.{◌≡◌, ◌≢◌, ◌<◌, ℕ, ℤ, pos, List, [], ◌∷◌, map, IsPermutation, IsTrue}
use Rattle.std.specs.List.{AllByRecursion}
use Rattle.sqlite.specs.declared.types.Value.TheVariants.{Null, Int, Blob}
use Rattle.sqlite.specs.Values.{or_null}
use Rattle.sqlite.specs.Order.{Row}
use Rattle.sqlite.specs.Tree.{Trees}
use Rattle.sqlite.specs.Effect.{Database}
use Rattle.sqlite.specs.State.{State}
use Rattle.sqlite_trees.specs.Tree.{IsAscending, rowid, put_row, without_rowid}
use Rattle.sqlite_catalog.specs.Listing.{IsSound}
use Rattle.kt_sql_tables.specs.declared.cells.NodeCells.{NodeCells}
use Rattle.kt_sql_tables.specs.declared.number.Number.{Number}
use Rattle.kt_sql_tables.specs.Cells.{cells_given}
use Rattle.kt_sql_tables.specs.Opened.{IsOldVersion, meta_of, meta_shown, this_version}
use Rattle.kt_sql_tables.specs.Rows.{whole, node_shown}
use Rattle.kt_sql_tables.specs.Schema.{kt_schema}
use Rattle.kt_sql_tables.specs.Settled.{IsSettled}

-- as the table keeps a row
abbrev pub cells_stored : NodeCells → Row
cells_stored c =
    whole c.id ∷ Null ∷ whole c.incarnation.value ∷ or_null (λ b. Blob b.items) c.permanent
    ∷ or_null (λ b. Blob b.items) c.tentative
    ∷ or_null (λ (n : Number). whole n.value) c.instance ∷ []

-- the keys rise, so none comes twice
abbrev pub RiseById : List NodeCells → Type 0
RiseById = IsAscending (λ (a b : NodeCells). a.id < b.id)

-- what the table shows, whose rows stand in some order
abbrev pub AreShown : List NodeCells → List Row → Type 0
AreShown cells rows = IsPermutation (map cells_given cells) (map node_shown rows)

-- each row is put in turn, in place of the one that has its key
abbrev pub put_all : List NodeCells → List Row → List Row
put_all [] rows = rows
put_all (c ∷ cs) rows = put_all cs (put_row (cells_stored c) (without_rowid (pos c.id) rows))

-- the tables are those of a store, and each row of the nodes has a key
pub record HasTable (db : Database) : Type 0 where
  pub schema : db.schema ≡ kt_schema
  pub numbered : AllByRecursion (λ r. (k : ℤ) × (rowid r ≡ Int k)) (db.trees 0)

-- these rows were put, and nothing else was done
pub record AllPut (cells : List NodeCells) (old new : Database) : Type 0 where
  pub schema : new.schema ≡ kt_schema
  pub nodes : new.trees 0 ≡ put_all cells (old.trees 0)
  pub others : (m : ℕ) → m ≢ 0 → new.trees m ≡ old.trees m

-- tables of version 1, whose nodes have the keys of these rows
pub record IsOld (db : Database) (cells : List NodeCells) : Type 0 where
  pub version : IsOldVersion db
  pub olds : List Row
  pub nodes : IsPermutation olds (map node_shown (db.trees 0))
  pub keys : map (λ (r : Row). rowid r) olds ≡ map (λ (c : NodeCells). whole c.id) cells

-- the tables after it: the nodes have just these rows, the board is as it was
pub record AreNewTrees (cells : List NodeCells) (old new : Trees) : Type 0 where
  pub nodes : AreShown cells (new 0)
  pub board : new 1 ≡ old 1
  pub meta : map meta_shown (new 2) ≡ meta_of this_version ∷ []
  pub lists : IsSound kt_schema new

-- all was put and committed
pub record ArePut (cells : List NodeCells) (old : Database) (new : State) : Type 0 where
  pub is_open : IsTrue new.is_open
  pub settled : IsSettled new
  pub schema : new.now.schema ≡ kt_schema
  pub trees : AreNewTrees cells old.trees new.now.trees
