-- Of `SqlStore::migrate` in src/migrating.rt.
use Rattle.std.proofs.Common.{◌≡◌, sym, subst}
use Rattle.sqlite.specs.Held.{state}
use Rattle.sqlite.specs.State.{HasCleanDisk}
use Rattle.kt_sql_tables.specs.Held.{Tabled, content_of}
use Rattle.kt_sql_tables.proofs.Shared.{carried_sure}
use Rattle.kt_sql.proofs.store.SqlStore.migrate.Goals as goal

pub returns-in-Ok-true-clause-content : goal.returns-in-Ok-true-clause-content
returns-in-Ok-true-clause-content g c =
    subst (λ (s : Tabled _). HasCleanDisk (state g.S.Store s.conn) → content_of g.S.Store s ≡ c.args.store.now.content)
    (sym c.over.ensures.tables)
    (λ clean. (carried_sure g.S.Store c.carried.new.conn c.args.store.now.content clean (c.in-Ok-true.ensures.done clean c.in-Ok-true.field-0-test).1).1)
