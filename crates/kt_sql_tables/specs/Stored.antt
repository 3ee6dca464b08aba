-- What lies on a disk that holds a store.
-- Cited by AnswerLemmas, CarriedTables, HeldLemmas, ListedLemmas, MadeLemmas, TabledLemmas, WriteLemmas, opened.rt,
--   ready.rt, specs/Held, specs/Old, specs/Stopped, specs/auxiliary/Changing, tables.rt, `Tables::write_both`,
--   `opened::put_version`, `tables::create_tables`; other crates.
use Rattle.std.specs.Prelude.{◌≡◌, ◌⊎◌, [], ◌∷◌, map}
use Rattle.sqlite.specs.Effect.{Database}
use Rattle.sqlite.specs.Tree.{Trees}
use Rattle.sqlite_catalog.specs.Listing.{IsSound}
use Rattle.kt_store.specs.Content.{Content}
use Rattle.kt_sql_tables.specs.Opened.{HasNoRow, IsOldVersion, meta_of, meta_shown, this_version}
use Rattle.kt_sql_tables.specs.Rows.{Holds}
use Rattle.kt_sql_tables.specs.Schema.{kt_schema, no_schema}

-- the three tables are listed there and nothing else, the third says the version that is made now, and the first two
-- hold this content
pub record IsStoreOf (db : Trees) (c : Content) : Type 0 where
  pub lists : IsSound kt_schema db
  pub meta : map meta_shown (db 2) ≡ meta_of this_version ∷ []
  pub holds : Holds db c

-- nothing is stored there yet: there is no table, or those of a store of version 1 have no row
abbrev pub IsUnused : Database → Type 0
IsUnused db = (db.schema ≡ no_schema) ⊎ (IsOldVersion db × HasNoRow db)
