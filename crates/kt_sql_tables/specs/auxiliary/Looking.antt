-- A look at the tables.
-- Cited by AnswerLemmas, OldLemmas, OpenedLemmas, StateLemmas, TabledLemmas, old.rt, opened.rt.
use Rattle.std.specs.Prelude.{◌≡◌, ◌≤◌, false, IsTrue}
use Rattle.sqlite_trees.specs.View.{doubt}
use Rattle.sqlite.specs.Tree.{Trees}
use Rattle.sqlite.specs.State.{State, HasCleanDisk}
use Rattle.kt_sql_tables.specs.Schema.{kt_schema}
use Rattle.kt_sql_tables.specs.Settled.{IsSettled}

-- the connection was open, and, where it was settled over the tables of a store, all that is seen is as it was
pub record Stays (old new : State) : Type 0 where
  pub was_open : IsTrue old.is_open
  pub rest : IsSettled old → old.now.schema ≡ kt_schema → (new.now ≡ old.now) × IsSettled new

-- no more was done than a look at the tables
pub record Looks (old new : State) : Type 0 where
  pub clean : doubt old.is_clean ≤ doubt new.is_clean
  pub mode : old.in_transaction ≡ false → new.in_transaction ≡ false
  pub stays : HasCleanDisk new → IsTrue new.is_open → Stays old new
  -- nothing was committed, so a stop leaves what it could leave before
  pub leaves : HasCleanDisk new → old.now.schema ≡ kt_schema → (db : Trees) → new.may_leave db → old.may_leave db
