-- What a stop of the program inside a call leaves on the disk, where the disk returns what was written.
-- Cited by TabledLemmas, held.rt, reads.rt, `Tables::ask`, `Tables::write_both`, `Tables::write`; other crates.
use Rattle.std.specs.Prelude.{◌⊎◌, Result, IsTrue, OnOk}
use Rattle.sqlite.specs.Store.{Ghosts}
use Rattle.sqlite.specs.Held.{state}
use Rattle.sqlite.specs.State.{HasCleanDisk}
use Rattle.sqlite.specs.Tree.{Trees}
use Rattle.kt_store.specs.Content.{Content}
use Rattle.kt_sql_tables.specs.Held.{Tabled, content_of, is_sure}
use Rattle.kt_sql_tables.specs.Stored.{IsStoreOf}

module _ {S : Type 0} (g : Ghosts S) (old new : Tabled S) where
  -- a store of the content before the call
  abbrev pub StopKeeps : Type 0
  StopKeeps =
      HasCleanDisk (state g new.conn) → IsTrue (is_sure g old)
      → (db : Trees) → (state g new.conn).may_leave db → IsStoreOf db (content_of g old)

  -- a store of the content before the call, or one of the content after it
  abbrev pub StopLeaves : Content → Type 0
  StopLeaves after =
      HasCleanDisk (state g new.conn) → IsTrue (is_sure g old)
      → (db : Trees) → (state g new.conn).may_leave db → IsStoreOf db (content_of g old) ⊎ IsStoreOf db after

  -- a disk that did not return what was written is never clean again; and where the call answers, tables that were sure
  -- are so still
  abbrev pub Answers : {T E : Type 0} → Result T E → Type 0
  Answers result =
      HasCleanDisk (state g new.conn)
      → HasCleanDisk (state g old.conn) × (IsTrue (is_sure g old) → OnOk result (IsTrue (is_sure g new)))
