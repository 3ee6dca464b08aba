-- What a statement that writes makes of the tables.
-- Cited by AnswerLemmas, WriteLemmas, held.rt, `Tables::write`.
use Rattle.std.specs.Prelude.{◌≡◌, ℕ, List, if◌then◌else◌, Ok, IsTrue}
use Rattle.sqlite.specs.Store.{Ghosts}
use Rattle.sqlite.specs.Held.{Held, state}
use Rattle.sqlite.specs.Order.{Row}
use Rattle.sqlite.specs.State.{State, CommitsBy, Executes, Shows}
use Rattle.sqlite.specs.Tree.{Trees}
use Rattle.kt_store.specs.Content.{Content}
use Rattle.kt_sql_tables.specs.Schema.{kt_schema}
use Rattle.kt_sql_tables.specs.Stored.{IsStoreOf}

-- it ran, and they hold this
pub record ChangesTo (old new : State) (c : Content) : Type 0 where
  pub shown : Shows old new new.now (if old.in_transaction then old.committed else new.now) old.in_transaction
  pub schema : new.now.schema ≡ kt_schema
  pub store : IsStoreOf new.now.trees c

-- with these parameters it makes this change, wherever it runs on the tables of a store; and no other is committed
-- where
-- it is stopped
pub record Changes {S : Type 0} (g : Ghosts S) (sql : List ℕ) (params : Row) (change : Content → Content) : Type 0 where
  pub runs : (old new : Held S) (c : Content) (count : ℕ) → (state g old).now.schema ≡ kt_schema
      → IsStoreOf (state g old).now.trees c
      → Executes sql params (state g old) (state g new) (Ok count)
      → ChangesTo (state g old) (state g new) (change c)
  pub commits : (old : Held S) (c : Content) (db : Trees) → IsTrue (state g old).is_open
      → (state g old).now.schema ≡ kt_schema
      → IsStoreOf (state g old).now.trees c
      → CommitsBy sql params (state g old) db
      → IsStoreOf db (change c)
