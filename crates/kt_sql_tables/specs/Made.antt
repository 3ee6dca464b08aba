-- The tables of a fresh store.
-- Cited by HeldLemmas, TabledLemmas, opened.rt, ready.rt, tables.rt, `opened::put_version`, `tables::create_tables`.
use Rattle.std.specs.Prelude.{◌≡◌, [], IsTrue}
use Rattle.sqlite.specs.State.{State}
use Rattle.kt_sql_tables.specs.Settled.{IsSettled}
use Rattle.kt_sql_tables.specs.Opened.{IsThisVersion}

-- the three tables were made and committed, and no node and no instance has a row
pub record IsMade (s : State) : Type 0 where
  pub is_open : IsTrue s.is_open
  pub settled : IsSettled s
  pub version : IsThisVersion s.now
  pub nodes : s.now.trees 0 ≡ []
  pub board : s.now.trees 1 ≡ []
