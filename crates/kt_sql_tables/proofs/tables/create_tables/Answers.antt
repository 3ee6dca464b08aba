use Rattle.std.proofs.Common.{◌≡◌, ◌∙◌, true, sym, ap, subst, arith, rules}
use Rattle.sqlite.specs.Effect.{Database}
use Rattle.sqlite.specs.State.{HasCleanDisk, Survives}
use Rattle.sqlite.specs.Tree.{Trees}
use Rattle.sqlite.proofs.Callers.{survives_begin}
use Rattle.sqlite.specs.Held.{state}
use Rattle.kt_sql_tables.specs.Made.{IsMade}
use Rattle.kt_sql_tables.specs.Opened.{IsThisVersion}
use Rattle.kt_store.specs.Content.{empty_content}
use Rattle.kt_sql_tables.specs.Stored.{IsStoreOf}
use Rattle.kt_sql_tables.proofs.CarriedLoop.{inside_survives, whole_survives}
use Rattle.kt_sql_tables.proofs.MadeLemmas.{node_made, board_made, meta_made, meta_put, store_made}
use Rattle.kt_sql_tables.proofs.tables.create_tables.Goals as goal

pub returns-clause-made : goal.returns-clause-made
returns-clause-made g c clean has =
    let old = c.args.conn.now in
    let end = c.commit.new.self.0 in
    let begun = c.transaction-tx.ensures.begun in
    let same : end ≡ c.conn-2-1.given.0 = search rules in
    let late : HasCleanDisk (state g.S.Store end) = search rules in
    let late-4 : HasCleanDisk (state g.S.Store c.run-4.new.tx.conn.now) = omega (arith, c.commit.ensures.survives.clean, late) in
    let late-3 : HasCleanDisk (state g.S.Store c.run-3.new.tx.conn.now) = omega (arith, c.run-4.ensures.survives.clean, late-4) in
    let late-2 : HasCleanDisk (state g.S.Store c.run-2.new.tx.conn.now) = omega (arith, c.run-3.ensures.survives.clean, late-3) in
    let one = c.in_ok-run.ensures.runs (omega (arith, c.run-2.ensures.survives.clean, late-2)) (rw begun) in
    let two = c.in_ok-run-2.ensures.runs late-2 one.1.mode in
    let three = c.in_ok-run-3.ensures.runs late-3 two.1.mode in
    let four = c.in_ok-run-4.ensures.runs late-4 three.1.mode in
    let nodes = node_made (state g.S.Store (record old { in_transaction = true })) _ _ has (rw begun at one.0) in
    let board = board_made _ _ _ nodes.0 nodes.1 two.0 in
    let meta = meta_made _ _ _ board.0 board.1 board.2 three.0 in
    let whole = meta_put _ _ _ meta.0 meta.1 meta.2 meta.3 four.0 in
    let done = (c.in_ok-commit.ensures.ok late).1 in
    let made : IsMade (state g.S.Store end) = record {
      is_open = done.is_open;
      settled = record { autocommit = done.mode; same = done.now_is ∙ sym done.committed_is };
      version = subst IsThisVersion (sym done.now_is) whole.0;
      nodes = ap (λ (d : Database). d.trees 0) done.now_is ∙ whole.1;
      board = ap (λ (d : Database). d.trees 1) done.now_is ∙ whole.2;
    } in
    subst (λ h. IsMade (state g.S.Store h)) same made

pub returns-clause-survives : goal.returns-clause-survives
returns-clause-survives g c has =
    let old = c.args.conn.now in
    let end = c.commit.new.self.0 in
    let begun = c.transaction-tx.ensures.begun in
    let same : end ≡ c.conn-2-1.given.0 = search rules in
    let first = state g.S.Store (record old { in_transaction = true }) in
    let one = state g.S.Store c.run.new.tx.conn.now in
    let two = state g.S.Store c.run-2.new.tx.conn.now in
    let three = state g.S.Store c.run-3.new.tx.conn.now in
    let four = state g.S.Store c.run-4.new.tx.conn.now in
    let P : Trees → Type 0 = λ db. IsStoreOf db empty_content in
    let made = λ (late-4 : HasCleanDisk four).
    let late-3 : HasCleanDisk three = omega (arith, c.run-4.ensures.survives.clean, late-4) in
    let late-2 : HasCleanDisk two = omega (arith, c.run-3.ensures.survives.clean, late-3) in
    let ran = c.in_ok-run.ensures.runs (omega (arith, c.run-2.ensures.survives.clean, late-2)) (rw begun) in
    let ran-2 = c.in_ok-run-2.ensures.runs late-2 ran.1.mode in
    let ran-3 = c.in_ok-run-3.ensures.runs late-3 ran-2.1.mode in
    let ran-4 = c.in_ok-run-4.ensures.runs late-4 ran-3.1.mode in
    store_made first one two three four _ _ _ _ has (rw begun at ran.0) ran-2.0 ran-3.0 ran-4.0 in
    let inside = inside_survives first two three (inside_survives first one two (rw begun at c.run.ensures.survives) c.run-2.ensures.survives)
    c.run-3.ensures.survives in
    let whole = survives_begin g.S.Store old (state g.S.Store end) P
    (whole_survives first three four (state g.S.Store end) P inside c.run-4.ensures.survives c.commit.ensures.survives made) in
    subst (λ h. Survives (state g.S.Store old) (state g.S.Store h) P) same whole

pub returns-in_err-commit-clause-survives : goal.returns-in_err-commit-clause-survives
returns-in_err-commit-clause-survives g c has =
    let old = c.args.conn.now in
    let end = c.commit.new.self.0 in
    let begun = c.transaction-tx.ensures.begun in
    let same : end ≡ c.conn-2-1.given.0 = search rules in
    let first = state g.S.Store (record old { in_transaction = true }) in
    let one = state g.S.Store c.run.new.tx.conn.now in
    let two = state g.S.Store c.run-2.new.tx.conn.now in
    let three = state g.S.Store c.run-3.new.tx.conn.now in
    let four = state g.S.Store c.run-4.new.tx.conn.now in
    let P : Trees → Type 0 = λ db. IsStoreOf db empty_content in
    let made = λ (late-4 : HasCleanDisk four).
    let late-3 : HasCleanDisk three = omega (arith, c.run-4.ensures.survives.clean, late-4) in
    let late-2 : HasCleanDisk two = omega (arith, c.run-3.ensures.survives.clean, late-3) in
    let ran = c.in_ok-run.ensures.runs (omega (arith, c.run-2.ensures.survives.clean, late-2)) (rw begun) in
    let ran-2 = c.in_ok-run-2.ensures.runs late-2 ran.1.mode in
    let ran-3 = c.in_ok-run-3.ensures.runs late-3 ran-2.1.mode in
    let ran-4 = c.in_ok-run-4.ensures.runs late-4 ran-3.1.mode in
    store_made first one two three four _ _ _ _ has (rw begun at ran.0) ran-2.0 ran-3.0 ran-4.0 in
    let inside = inside_survives first two three (inside_survives first one two (rw begun at c.run.ensures.survives) c.run-2.ensures.survives)
    c.run-3.ensures.survives in
    let whole = survives_begin g.S.Store old (state g.S.Store end) P
    (whole_survives first three four (state g.S.Store end) P inside c.run-4.ensures.survives c.commit.ensures.survives made) in
    subst (λ h. Survives (state g.S.Store old) (state g.S.Store h) P) same whole
