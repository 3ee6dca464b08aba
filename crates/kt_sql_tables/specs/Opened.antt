-- What is found where a store is opened.
-- Cited by CarriedTables, HeldLemmas, ListedLemmas, MadeLemmas, OldLemmas, OpenedLemmas, TabledLemmas, WriteLemmas,
--   held.rt, opened.rt, ready.rt, specs/Made, specs/Old, specs/Stored, specs/auxiliary/Carrying, `old::are_old`,
--   `opened::has_no_row`, `opened::put_version`, `opened::tested`, `ready::raised`, `ready::readied`,
--   `tables::create_tables`; other crates.
use Rattle.std.specs.Prelude.{◌≡◌, ◌↔◌, ℕ, Bool, [], ◌∷◌, map, IsTrue}
use Rattle.sqlite.specs.Order.{Row, column}
use Rattle.sqlite.specs.Effect.{Database}
use Rattle.sqlite.specs.State.{State}
use Rattle.kt_sql_tables.specs.Schema.{kt_schema}
use Rattle.kt_sql_tables.specs.Settled.{IsSettled}
use Rattle.kt_sql_tables.specs.Rows.{whole, AreAsSaid}

-- what a query shows of a row of the third table
abbrev pub meta_shown : Row → Row
meta_shown r = column r 0 ∷ column r 2 ∷ []

-- the version of the tables that are made, which the third says; and the one before it, which differs in the bytes of
-- checkpoints
abbrev pub this_version : ℕ
this_version = 2

abbrev pub old_version : ℕ
old_version = 1

abbrev pub meta_of : ℕ → Row
meta_of version = whole 1 ∷ whole version ∷ []

-- the three tables are there and nothing else, and the third says the version
pub record IsVersion (version : ℕ) (db : Database) : Type 0 where
  pub schema : db.schema ≡ kt_schema
  pub meta : map meta_shown (db.trees 2) ≡ meta_of version ∷ []

abbrev pub IsThisVersion : Database → Type 0
IsThisVersion = IsVersion this_version

abbrev pub IsOldVersion : Database → Type 0
IsOldVersion = IsVersion old_version

-- no node and no instance has a row
pub record HasNoRow (db : Database) : Type 0 where
  pub nodes : db.trees 0 ≡ []
  pub board : db.trees 1 ≡ []

-- an open connection over the tables of a store, and whether each row is as said
pub record IsReady (s : State) (is_trusted : Bool) : Type 0 where
  pub is_open : IsTrue s.is_open
  pub settled : IsSettled s
  pub version : IsThisVersion s.now
  pub trusted : IsTrue is_trusted ↔ AreAsSaid s.now.trees
