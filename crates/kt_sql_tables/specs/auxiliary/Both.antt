-- Two rows in one transaction.
-- Cited by AnswerLemmas, statements.rt, `statements::execute_both`.
use Rattle.std.specs.Prelude.{◌≡◌, ℕ, true, Ok, IsTrue}
use Rattle.sqlite.specs.Store.{Ghosts}
use Rattle.sqlite.specs.Order.{Row}
use Rattle.sqlite.specs.State.{Executes}
use Rattle.sqlite.specs.Held.{Held, state}
use Rattle.sqlite.specs.Tree.{Trees}
use Rattle.kt_store.specs.declared.rows.InstanceRow.{InstanceRow}
use Rattle.kt_sql_tables.specs.Settled.{IsSettled}
use Rattle.kt_sql_tables.specs.Rows.{instance_row_given}
use Rattle.kt_sql_tables.specs.auxiliary.Text.{put_node_text, put_instance_row_text}

-- both were put, the one after the other
pub record PutsBoth {S : Type 0} (g : Ghosts S) (node : Row) (p : InstanceRow) (old : Held S) : Type 0 where
  pub mid : Held S
  pub last : Held S
  pub counts : ℕ × ℕ
  pub one : Executes put_node_text node (state g (record old { in_transaction = true })) (state g mid)
      (Ok counts.0)
  pub two : Executes put_instance_row_text (instance_row_given p) (state g mid) (state g last) (Ok counts.1)

-- and committed
pub record RanBoth {S : Type 0} (g : Ghosts S) (node : Row) (p : InstanceRow) (old new : Held S) : Type 0 where
  pub puts : PutsBoth g node p old
  pub was_open : IsTrue (state g old).is_open
  pub now : (state g new).now ≡ (state g puts.last).now
  pub settled : IsSettled (state g new)

-- this is what they leave, should it be committed
abbrev pub CommitsBoth : {S : Type 0} → Ghosts S → Row → InstanceRow → Held S → Trees → Type 0
CommitsBoth g node p old db = (puts : PutsBoth g node p old) × (db ≡ (state g puts.last).now.trees)
