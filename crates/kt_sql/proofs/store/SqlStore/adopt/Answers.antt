-- Of `SqlStore::adopt` in src/open.rt.
use Rattle.std.proofs.Common.{◌≡◌, ◌∙◌, Bool, Err, Result, sym, ap, subst}
use Rattle.std.specs.Prelude.{◌↔◌, IsTrue}
use Rattle.sqlite.specs.Held.{state}
use Rattle.sqlite.specs.State.{HasCleanDisk}
use Rattle.sqlite.specs.Effect.{Database}
use Rattle.sqlite.specs.Tree.{Trees}
use Rattle.kt_store.specs.Content.{Content, empty_content}
use Rattle.kt_sql_tables.specs.Stored.{IsStoreOf}
use Rattle.kt_sql_tables.specs.declared.ready.ReadyError.{ReadyError}
use Rattle.kt_sql_tables.specs.Schema.{no_schema}
use Rattle.kt_sql_tables.specs.Opened.{HasNoRow, IsOldVersion}
use Rattle.kt_sql_tables.specs.Rows.{AreAsSaid, Holds}
use Rattle.kt_sql_tables.specs.Held.{Tabled, is_sure, content_of}
use Rattle.kt_sql_tables.proofs.Shared.{holds_content, made_fresh, one_version, ready_sure, store_version}
use Rattle.kt_sql.proofs.OpenLemmas.{only_two}
use Rattle.kt_sql.proofs.store.SqlStore.adopt.Goals as goal

pub returns-in-Ok-clause-fresh : goal.returns-in-Ok-clause-fresh
returns-in-Ok-clause-fresh g c =
    subst (λ (s : Tabled _). HasCleanDisk (state g.S.Store s.conn) → (state g.S.Store c.args.conn).now.schema ≡ no_schema
    → IsTrue (is_sure g.S.Store s) × (content_of g.S.Store s ≡ empty_content))
    (sym c.over.ensures.tables)
    (λ clean has. made_fresh g.S.Store c.readied.new.conn c.in-Ok.is_trusted clean (c.in-Ok.ensures.ready clean) (c.in-Ok.ensures.fresh clean has))

pub returns-in-Ok-clause-honest : goal.returns-in-Ok-clause-honest
returns-in-Ok-clause-honest g c =
    subst (λ (s : Tabled _). HasCleanDisk (state g.S.Store s.conn) → IsTrue (is_sure g.S.Store s) ↔ AreAsSaid (state g.S.Store s.conn).now.trees)
    (sym c.over.ensures.tables)
    (λ clean. ready_sure g.S.Store c.readied.new.conn c.in-Ok.is_trusted clean (c.in-Ok.ensures.ready clean))

pub returns-in-Ok-clause-raised : goal.returns-in-Ok-clause-raised
returns-in-Ok-clause-raised g c =
    subst (λ (s : Tabled _). HasCleanDisk (state g.S.Store s.conn) → IsOldVersion (state g.S.Store c.args.conn).now
    → HasNoRow (state g.S.Store c.args.conn).now × IsTrue (is_sure g.S.Store s) × (content_of g.S.Store s ≡ empty_content))
    (sym c.over.ensures.tables)
    (λ clean has.
    let it = c.in-Ok.ensures.raised clean has in
    let fresh = made_fresh g.S.Store c.readied.new.conn c.in-Ok.is_trusted clean (c.in-Ok.ensures.ready clean) it.1 in
    (it.0, fresh.0, fresh.1))

pub returns-in-Ok-clause-reopened : goal.returns-in-Ok-clause-reopened
returns-in-Ok-clause-reopened g c =
    subst (λ (s : Tabled _). HasCleanDisk (state g.S.Store s.conn) → IsTrue (state g.S.Store c.args.conn).is_open → (content : Content)
    → IsStoreOf (state g.S.Store c.args.conn).now.trees content → IsTrue (is_sure g.S.Store s) × (content_of g.S.Store s ≡ content))
    (sym c.over.ensures.tables)
    (λ clean on content store.
    let version = store_version (state g.S.Store c.args.conn).now content (c.schema.ensures.live on).0 store in
    let same = c.in-Ok.ensures.found clean version in
    let held = subst (λ (d : Database). Holds d.trees content) (sym same) store.holds in (
      (ready_sure g.S.Store c.readied.new.conn c.in-Ok.is_trusted clean (c.in-Ok.ensures.ready clean)).1 (content, held),
      holds_content content held,
    ))

pub returns-in-Ok-clause-rests : goal.returns-in-Ok-clause-rests
returns-in-Ok-clause-rests g c =
    subst (λ (s : Tabled _). HasCleanDisk (state g.S.Store s.conn) → (db : Trees) → (state g.S.Store s.conn).may_leave db
    → db ≡ (state g.S.Store s.conn).now.trees)
    (sym c.over.ensures.tables)
    (λ clean db may.
    let ready = c.in-Ok.ensures.ready clean in
    g.met.S.Store.settled c.readied.new.conn.store db ready.is_open may ∙ sym (ap (λ (d : Database). d.trees) ready.settled.same))

pub returns-in-Err-clause-reopens : goal.returns-in-Err-clause-reopens
returns-in-Err-clause-reopens g c clean on content store =
    let version = store_version (state g.S.Store c.args.conn).now content (c.schema.ensures.live on).0 store in
    let told : ReadyError → Result Bool ReadyError = λ e. Err e in
    only_two c.open_error.result
    (λ is. (c.in-Err.ensures.damaged clean (ap told (c.open_error.ensures.damaged.0 is))).1 version)
    (λ is. one_version (state g.S.Store c.args.conn).now version (c.in-Err.ensures.version clean (ap told (c.open_error.ensures.version.0 is))).0)
    c.open_error.ensures.opened
