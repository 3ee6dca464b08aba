-- Tables over a connection: what they hold, and when that is said.
-- Cited by AnswerLemmas, TabledLemmas, held.rt, reads.rt, specs/Stopped, `Tables::ask`, `Tables::cells_of`,
--   `Tables::find_instance`, `Tables::find_open`, `Tables::last_instance`, `Tables::nodes`, `Tables::over`,
--   `Tables::rows_of`, `Tables::write_both`, `Tables::write`; other crates.
use Rattle.std.specs.Prelude.{◌≡◌, ◌⊎◌, Bool, ◌&&◌, refl, IsTrue}
use Rattle.std.specs.Coded.{Coded, code_by, coded×, coded_bool}
use Rattle.sqlite.specs.Store.{Ghosts}
use Rattle.sqlite.specs.Held.{Held, held_code, state}
use Rattle.sqlite.specs.State.{HasCleanDisk}
use Rattle.sqlite_disk.specs.Disk.{MoreFaults}
use Rattle.kt_store.specs.Content.{Content}
use Rattle.kt_sql_tables.specs.Schema.{kt_schema}
use Rattle.kt_sql_tables.specs.Settled.{IsSettled}
use Rattle.kt_sql_tables.specs.Rows.{content_in}
use Rattle.kt_sql_tables.specs.Stored.{IsStoreOf}

pub record Tabled (S : Type 0) : Type 0 where
  pub conn : Held S
  -- each row was as said when the tables were opened
  pub is_trusted : Bool

abbrev pub tabled_code : {S : Type 0} → Coded S → Coded (Tabled S)
tabled_code {S} store =
    code_by (Held S × Bool) (coded× (held_code store) coded_bool)
    (λ s. (s.conn, s.is_trusted))
    (λ p. record { conn = p.0; is_trusted = p.1 }) (λ _. refl)

module _ {S : Type 0} (g : Ghosts S) where
  -- the connection is open, the disk has returned what was written, and the rows were as said at the start
  abbrev pub is_sure : Tabled S → Bool
  is_sure s = s.is_trusted && ((state g s.conn).is_open && (state g s.conn).is_clean)

  -- each row was as said when the tables were opened, and the disk has returned what was written: so too over a
  -- connection that was shut
  abbrev pub is_sound : Tabled S → Bool
  is_sound s = s.is_trusted && (state g s.conn).is_clean

  -- what its tables hold
  abbrev pub content_of : Tabled S → Content
  content_of s = content_in (state g s.conn).now.trees

  -- the tables are those of a store, and each row is as said
  pub record IsKept (s : Tabled S) : Type 0 where
    pub settled : IsSettled (state g s.conn)
    pub schema : (state g s.conn).now.schema ≡ kt_schema
    pub store : IsStoreOf (state g s.conn).now.trees (content_of s)

  -- tables that were sure are so still, unless the disk failed since or did not return what was written
  abbrev pub Lasts : (old new : Tabled S) → Type 0
  Lasts old new =
      HasCleanDisk (state g new.conn) → IsTrue (is_sure old)
      → IsTrue (is_sure new) ⊎ MoreFaults (state g old.conn).faults (state g new.conn).faults
