-- What a statement leaves of a connection, whether it ran or not.
-- Cited by AnswerLemmas, OpenedLemmas, `Tables::ask`, `Tables::write_both`, `old::are_old`, `opened::ask`,
--   `statements::run`.
use Rattle.std.proofs.Common.{◌≡◌, inl, inr, ℕ, Bool, true, false, cond, List, Option, None, Some, Ok, Err, Result, OnOk, sym, ap, subst, ◌∙◌}
use Rattle.std.proofs.Common.{arith}
use Rattle.std.specs.Prelude.{IsTrue, MatchBool}
use Rattle.sqlite.specs.Order.{Row}
use Rattle.sqlite.specs.declared.error.Error.{Error}
use Rattle.sqlite.specs.declared.error.Error.TheVariants.{ExecuteReturnedResults}
use Rattle.sqlite.specs.Command.{Command}
use Rattle.sqlite.specs.Command.TheVariants.{Select, Insert, InsertOr, Update, Delete, CreateTable, CreateIndex, DropTable, DropIndex, Begin, Commit, Rollback}
use Rattle.sqlite.specs.Command.TheVariants.{Savepoint, Release, RollbackTo, Nothing, CreateView, DropView, Rows}
use Rattle.sqlite_resolve.specs.declared.error.CompileError.{CompileError}
use Rattle.sqlite_resolve.specs.declared.compiled.Compiled.{Compiled}
use Rattle.sqlite_schema.specs.declared.command.Returning.{Returning}
use Rattle.sqlite.specs.State.{State, Shows, Runs, IsUnchanged, IsRolledBack, Fails, RunsCommand, shows_rows, IsNotRun, Executes, ExecutesIn}
use Rattle.sqlite.specs.State.{ExecutesInside, FailsToShow, FailsToQuery, ShowsRows, Shown, HasCleanDisk, Survives, CommitsShowing}
use Rattle.sqlite.specs.Listing.{understood}
use Rattle.sqlite.specs.Tree.{Trees}
use Rattle.sqlite.proofs.Callers.{IsPlain, never_commits}
use Rattle.kt_sql_tables.specs.Schema.{kt_schema}
use Rattle.kt_sql_tables.specs.Settled.{IsSettled}
use Rattle.kt_sql_tables.specs.auxiliary.Looking.{Stays, Looks}

abbrev Leaves : State → State → Type 0
Leaves old new = IsTrue new.is_open → Stays old new

unchanged : (old new : State) → IsUnchanged old new → Stays old new
unchanged old new h = record {
  was_open = h.0.was_open;
  rest = λ was _. (h.0.now_is, record { autocommit = h.0.mode ∙ was.autocommit; same = h.0.now_is ∙ was.same ∙ sym h.0.committed_is });
}

rolled_back : (old new : State) → IsRolledBack old new → Leaves old new
rolled_back old new h is_open =
    let back = h.undone is_open in
    record { was_open = h.was_open is_open; rest = λ was _. (back.0 ∙ sym was.same, record { autocommit = h.autocommit; same = back.0 ∙ sym back.1 }) }

fails : {U : Type 0} (old new : State) (e : Error) → Fails old new U e → Leaves old new
fails old new e h = rolled_back old new h.3

not_run : (old new : State) (sql : List ℕ) (params : Row) (e : Error) → IsNotRun old new sql params e → Leaves old new
unfolding IsNotRun
not_run old new sql params e (inl h) = λ _. unchanged old new h.1
not_run old new sql params e (inr h) = fails old new e h

refused : (old new : State) (sql : List ℕ) (c : Compiled) (params : Row) (e : Error) → RunsCommand old new sql c params (Err e) → Leaves old new
refused old new sql c params e (inl h) = λ _. unchanged old new h.1
refused old new sql c params e (inr h) = fails old new e h

alone : (b : Bool) (old new : State) (sql : List ℕ) (c : Compiled) (params : Row) (e : Error) (P : Type 0)
    → MatchBool b (P × IsUnchanged old new) (RunsCommand old new sql c params (Err e)) → Leaves old new
alone true old new sql c params e P h = λ _. unchanged old new h.1
alone false old new sql c params e P h = refused old new sql c params e h

-- a statement that was refused
pub refused_stays : (sql : List ℕ) (params : Row) (old new : State) (e : Error) → Executes sql params old new (Err e) → IsTrue new.is_open → Stays old new
unfolding ExecutesIn
refused_stays sql params old new e (inl h) = not_run old new sql params e h
refused_stays sql params old new e (inr h) = alone (shows_rows false h.0) old new sql h.0 _ e _ h.2

to_show : (old new : State) (sql : List ℕ) (c : Compiled) (params : Row) (e : Error) (what : Option Returning)
    → FailsToShow old new sql c params e what → Leaves old new
to_show old new sql c params e None h = λ _. unchanged old new h.3
to_show old new sql c params e (Some what) h = refused old new sql c params e h

-- a query that was refused
pub query_refused_stays : (sql : List ℕ) (params : Row) (old new : State) (e : Error) → FailsToQuery sql params old new e → IsTrue new.is_open → Stays old new
unfolding FailsToQuery
query_refused_stays sql params old new e (inl h) = not_run old new sql params e h
query_refused_stays sql params old new e (inr h) = to_show old new sql h.0 _ e h.0.returning h.2

none_of : (c : Compiled) {r : Result Compiled CompileError} → r ≡ Ok c → IsPlain r → c.returning ≡ None
none_of c is plain = (subst IsPlain is plain).0

shows : (old new : State) (sql : List ℕ) (c : Compiled) (params : Row) (rows : List Row) (what : Option Returning) → ShowsRows old new sql c params rows what
    → IsTrue old.is_open × ((what ≡ None) → IsUnchanged old new)
shows old new sql c params rows None h = (h.3.0.was_open, λ _. h.3)
shows old new sql c params rows (Some what) h = (h.1.shown.was_open, λ some. absurd cc)

-- a query that gave its rows
pub query_stays : (sql : List ℕ) (params : Row) (old new : State) (rows : List Row) → IsPlain (understood kt_schema sql) → Shown sql params old new rows
    → Stays old new
unfolding Shown
query_stays sql params old new rows plain h =
    let it = shows old new sql h.0 _ rows h.0.returning h.2 in
    let none = λ (has : old.now.schema ≡ kt_schema). none_of h.0 (ap (λ s. understood s sql) (sym has) ∙ h.1.is) plain in
    record { was_open = it.0; rest = λ was has. (unchanged old new (it.1 (none has))).rest was has }

shows_open : (old new : State) (sql : List ℕ) (c : Compiled) (params : Row) (rows : List Row) (what : Option Returning)
    → ShowsRows old new sql c params rows what → IsTrue new.is_open
shows_open old new sql c params rows None h = h.3.0.is_open
shows_open old new sql c params rows (Some what) h = h.1.shown.is_open

pub query_open : (sql : List ℕ) (params : Row) (old new : State) (rows : List Row) → Shown sql params old new rows → IsTrue new.is_open
unfolding Shown
query_open sql params old new rows h = shows_open old new sql h.0 _ rows h.0.returning h.2

-- a query commits nothing
pub query_leaves : (sql : List ℕ) (params : Row) (old new : State) → IsPlain (understood kt_schema sql) → Survives old new (CommitsShowing sql params old)
    → HasCleanDisk new → old.now.schema ≡ kt_schema → (db : Trees) → new.may_leave db → old.may_leave db
query_leaves sql params old new plain survives clean has db may = elim (survives.crash clean db may) [
  | inl before ↦ before
  | inr made ↦ absurd (never_commits sql params old db (subst (λ s. IsPlain (understood s sql)) (sym has) plain) made)
]

-- a write that was made
pub written_settled : (old new : State) → IsSettled old → Shows old new new.now (cond old.in_transaction old.committed new.now) old.in_transaction
    → IsSettled new
written_settled old new was h =
    let committed : new.committed ≡ new.now = h.committed_is ∙ ap (λ b. cond b old.committed new.now) was.autocommit in
    record { autocommit = h.mode ∙ was.autocommit; same = sym committed }

-- ---- a statement that ran on an open connection

runs_open : (old new : State) (returning : Option Returning) (command : Command) (text : List ℕ) (params : Row) (count : ℕ)
    → Runs old new returning command text params count
    → IsTrue new.is_open → IsTrue old.is_open
runs_open old new returning (Select q names) text params count h on = absurd h
runs_open old new returning (Insert at from) text params count h on = h.shown.was_open
runs_open old new returning (InsertOr at way from clauses) text params count h on = h.shown.was_open
runs_open old new returning (Update at q) text params count h on = h.shown.was_open
runs_open old new returning (Delete at q) text params count h on = h.shown.was_open
runs_open old new returning CreateTable text params count h on = h.shown.was_open
runs_open old new returning (CreateIndex at) text params count h on = h.shown.was_open
runs_open old new returning (DropTable at) text params count h on = h.shown.was_open
runs_open old new returning (DropIndex at) text params count h on = h.shown.was_open
runs_open old new returning Begin text params count h on = h.1.was_open
runs_open old new returning Commit text params count h on = h.1.was_open
runs_open old new returning Rollback text params count h on = h.1.was_open on
runs_open old new returning (Savepoint name) text params count h on = h.0.0.was_open
runs_open old new returning (Release name) text params count (at, newest, inl done, none) on = done.1.0.was_open
runs_open old new returning (Release name) text params count (at, newest, inr done, none) on = done.1.0.was_open
runs_open old new returning (RollbackTo name) text params count h on = h.2.2.was_open
runs_open old new returning (Rows values width names) text params count h on = h.0.0.was_open
runs_open old new returning Nothing text params count h on = h.0.0.was_open
runs_open old new returning CreateView text params count h on = h.shown.was_open
runs_open old new returning (DropView at) text params count h on = h.shown.was_open

alone_open : (b : Bool) (old new : State) (sql : List ℕ) (c : Compiled) (params : Row) (count : ℕ) (P : Type 0)
    → MatchBool b ((◌≡◌ {A = Result ℕ Error} (Ok count) (Err ExecuteReturnedResults)) × P) (RunsCommand old new sql c params (Ok count)) → IsTrue new.is_open
    → IsTrue old.is_open
alone_open true old new sql c params count P h on = absurd (let e = h.0 in cc)
alone_open false old new sql c params count P h on = runs_open old new c.returning c.command _ params count h on

pub executed_open : (sql : List ℕ) (params : Row) (old new : State) (count : ℕ) → Executes sql params old new (Ok count) → IsTrue new.is_open
    → IsTrue old.is_open
unfolding ExecutesIn
executed_open sql params old new count h on = alone_open (shows_rows false h.0) old new sql h.0 _ count _ h.2 on

-- a statement inside a transaction leaves it open
pub stays_inside : (held : ℕ) (sql : List ℕ) (params : Row) (old new : State) (r : Result ℕ Error) → ExecutesInside held sql params old new r
    → OnOk r (IsTrue new.in_transaction)
stays_inside held sql params old new (Ok count) h = h.1.mode
stays_inside held sql params old new (Err e) h = tt

-- both of two statements were undone
pub undone_stays : (old new : State) → IsTrue old.is_open → (new.now ≡ old.now) × (new.committed ≡ old.committed) → new.in_transaction ≡ false → Stays old new
undone_stays old new on same ended = record { was_open = on; rest = λ was _. (same.0, record { autocommit = ended; same = same.0 ∙ was.same ∙ sym same.1 }) }

-- ---- one look after another

-- where a look leaves the connection open, it was open
pub look_open : (old new : State) → Looks old new → HasCleanDisk new → IsTrue new.is_open → IsTrue old.is_open
look_open old new h clean on = (h.stays clean on).was_open

pub look_clean : (old new : State) → Looks old new → HasCleanDisk new → HasCleanDisk old
look_clean old new h clean = omega (arith, h.clean, clean)
