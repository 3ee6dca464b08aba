use Rattle.std.proofs.Common.{◌≡◌, ◌∙◌, true, sym, ap, subst, arith, rules}
use Rattle.sqlite.specs.Effect.{Database}
use Rattle.sqlite.specs.State.{HasCleanDisk, Survives}
use Rattle.sqlite.specs.Tree.{Trees}
use Rattle.sqlite.proofs.Callers.{survives_begin}
use Rattle.sqlite.specs.Held.{state}
use Rattle.kt_sql_tables.specs.Made.{IsMade}
use Rattle.kt_sql_tables.specs.Opened.{IsThisVersion}
use Rattle.kt_store.specs.Content.{empty_content}
use Rattle.kt_sql_tables.specs.Stored.{IsStoreOf}
use Rattle.kt_sql_tables.proofs.CarriedLoop.{once_survives}
use Rattle.kt_sql_tables.proofs.CarriedTables.{raised_made, raised_store}
use Rattle.kt_sql_tables.proofs.opened.put_version.Goals as goal

pub returns-clause-made : goal.returns-clause-made
returns-clause-made g c clean version none =
    let old = c.args.conn.now in
    let end = c.commit.new.self.0 in
    let begun = c.transaction-tx.ensures.begun in
    let same : end ≡ c.conn-2-1.given.0 = search rules in
    let late : HasCleanDisk (state g.S.Store end) = search rules in
    let later : HasCleanDisk (state g.S.Store c.run.new.tx.conn.now) = omega (arith, c.commit.ensures.survives.clean, late) in
    let one = c.in_ok-run.ensures.runs later (rw begun) in
    let whole = raised_made (state g.S.Store (record old { in_transaction = true })) _ _ version none (rw begun at one.0) in
    let done = (c.in_ok-commit.ensures.ok late).1 in
    let made : IsMade (state g.S.Store end) = record {
      is_open = done.is_open;
      settled = record { autocommit = done.mode; same = done.now_is ∙ sym done.committed_is };
      version = subst IsThisVersion (sym done.now_is) whole.0;
      nodes = ap (λ (d : Database). d.trees 0) done.now_is ∙ whole.1;
      board = ap (λ (d : Database). d.trees 1) done.now_is ∙ whole.2;
    } in
    subst (λ h. IsMade (state g.S.Store h)) same made

pub returns-clause-was_open : goal.returns-clause-was_open
returns-clause-was_open g c clean on =
    let end = c.commit.new.self.0 in
    let begun = c.transaction-tx.ensures.begun in
    let late : HasCleanDisk (state g.S.Store end) = search rules in
    let later : HasCleanDisk (state g.S.Store c.run.new.tx.conn.now) = omega (arith, c.commit.ensures.survives.clean, late) in
    rw begun at (c.in_ok-run.ensures.runs later (rw begun)).1.was_open

pub returns-clause-survives : goal.returns-clause-survives
returns-clause-survives g c version none =
    let old = c.args.conn.now in
    let end = c.commit.new.self.0 in
    let begun = c.transaction-tx.ensures.begun in
    let same : end ≡ c.conn-2-1.given.0 = search rules in
    let first = state g.S.Store (record old { in_transaction = true }) in
    let last = state g.S.Store c.run.new.tx.conn.now in
    let P : Trees → Type 0 = λ db. IsStoreOf db empty_content in
    let made = λ (late : HasCleanDisk last).
    let ran = c.in_ok-run.ensures.runs late (rw begun) in
    raised_store first last _ version none (rw begun at ran.0) in
    let whole = survives_begin g.S.Store old (state g.S.Store end) P
    (once_survives first last (state g.S.Store end) P (rw begun at c.run.ensures.survives) c.commit.ensures.survives made) in
    subst (λ h. Survives (state g.S.Store old) (state g.S.Store h) P) same whole

pub returns-in_err-commit-clause-survives : goal.returns-in_err-commit-clause-survives
returns-in_err-commit-clause-survives g c version none =
    let old = c.args.conn.now in
    let end = c.commit.new.self.0 in
    let begun = c.transaction-tx.ensures.begun in
    let same : end ≡ c.conn-2-1.given.0 = search rules in
    let first = state g.S.Store (record old { in_transaction = true }) in
    let last = state g.S.Store c.run.new.tx.conn.now in
    let P : Trees → Type 0 = λ db. IsStoreOf db empty_content in
    let made = λ (late : HasCleanDisk last).
    let ran = c.in_ok-run.ensures.runs late (rw begun) in
    raised_store first last _ version none (rw begun at ran.0) in
    let whole = survives_begin g.S.Store old (state g.S.Store end) P
    (once_survives first last (state g.S.Store end) P (rw begun at c.run.ensures.survives) c.commit.ensures.survives made) in
    subst (λ h. Survives (state g.S.Store old) (state g.S.Store h) P) same whole
