use Rattle.std.proofs.Common.{◌≡◌, ◌∙◌, refl, true, sym, subst, arith, rules}
use Rattle.sqlite.specs.Tree.{Trees}
use Rattle.sqlite.specs.Effect.{Database}
use Rattle.sqlite.specs.State.{HasCleanDisk, Survives}
use Rattle.sqlite.specs.Held.{state}
use Rattle.sqlite.proofs.Callers.{survives_begin}
use Rattle.kt_sql_tables.specs.Schema.{kt_schema}
use Rattle.kt_sql_tables.specs.auxiliary.Carrying.{ArePut, AreNewTrees}
use Rattle.kt_sql_tables.proofs.CarriedLoop.{whole_survives}
use Rattle.kt_sql_tables.proofs.CarriedTables.{has_table, all_done, still_meta, put_version_does}
use Rattle.kt_sql_tables.proofs.carrying.put_in_one.Goals as goal

pub returns-clause-made : goal.returns-clause-made
returns-clause-made g c clean is =
    let old = c.args.conn.now in
    let mid = c.put_rows.new.tx.conn.now in
    let last = c.run.new.tx.conn.now in
    let end = c.commit.new.self.0 in
    let cells = c.args.rows.now in
    let begun = c.transaction-tx.ensures.begun in
    let same : end ≡ c.conn-2-1.given.0 = search rules in
    let late : HasCleanDisk (state g.S.Store end) = search rules in
    let clean-2 : HasCleanDisk (state g.S.Store last) = omega (arith, c.commit.ensures.survives.clean, late) in
    let clean-1 : HasCleanDisk (state g.S.Store mid) = omega (arith, c.run.ensures.survives.clean, clean-2) in
    let first = state g.S.Store (record old { in_transaction = true }) in
    let put = (rw begun at c.in_ok-put_rows.ensures.put) clean-1 refl (has_table first.now cells is) in
    let inside = (rw begun at c.in_ok-put_rows.ensures.inside) clean-1 refl in
    let ran = c.in_ok-run.ensures.runs clean-2 inside in
    let raised = put_version_does (state g.S.Store mid) (state g.S.Store last) c.in_ok-run.field-0 put.schema
    (still_meta cells first.now (state g.S.Store mid).now is put) ran.0 in
    let all = all_done first.now (state g.S.Store mid).now (state g.S.Store last).now cells is c.requires.rise put raised in
    let done = (c.in_ok-commit.ensures.ok late).1 in
    let made : ArePut cells first.now (state g.S.Store end) = record {
      is_open = done.is_open;
      settled = record { autocommit = done.mode; same = done.now_is ∙ sym done.committed_is };
      schema = subst (λ (d : Database). d.schema ≡ kt_schema) (sym done.now_is) all.0;
      trees = subst (λ (d : Database). AreNewTrees cells first.now.trees d.trees) (sym done.now_is) all.1;
    } in
    subst (λ h. ArePut cells first.now (state g.S.Store h)) same made

pub returns-clause-survives : goal.returns-clause-survives
returns-clause-survives g c is =
    let old = c.args.conn.now in
    let mid = c.put_rows.new.tx.conn.now in
    let last = c.run.new.tx.conn.now in
    let end = c.commit.new.self.0 in
    let cells = c.args.rows.now in
    let begun = c.transaction-tx.ensures.begun in
    let same : end ≡ c.conn-2-1.given.0 = search rules in
    let first = state g.S.Store (record old { in_transaction = true }) in
    let P : Trees → Type 0 = AreNewTrees cells first.now.trees in
    let made = λ (clean-2 : HasCleanDisk (state g.S.Store last)).
    let clean-1 : HasCleanDisk (state g.S.Store mid) = omega (arith, c.run.ensures.survives.clean, clean-2) in
    let put = (rw begun at c.in_ok-put_rows.ensures.put) clean-1 refl (has_table first.now cells is) in
    let inside = (rw begun at c.in_ok-put_rows.ensures.inside) clean-1 refl in
    let ran = c.in_ok-run.ensures.runs clean-2 inside in
    let raised = put_version_does (state g.S.Store mid) (state g.S.Store last) c.in_ok-run.field-0 put.schema
    (still_meta cells first.now (state g.S.Store mid).now is put) ran.0 in
    (all_done first.now (state g.S.Store mid).now (state g.S.Store last).now cells is c.requires.rise put raised).1 in
    let whole = survives_begin g.S.Store old (state g.S.Store end) P
    (whole_survives first (state g.S.Store mid) (state g.S.Store last) (state g.S.Store end) P (rw begun at c.put_rows.ensures.survives) c.run.ensures.survives
    c.commit.ensures.survives made) in
    subst (λ h. Survives (state g.S.Store old) (state g.S.Store h) P) same whole

pub returns-in_err-commit-clause-survives : goal.returns-in_err-commit-clause-survives
returns-in_err-commit-clause-survives g c is =
    let old = c.args.conn.now in
    let mid = c.put_rows.new.tx.conn.now in
    let last = c.run.new.tx.conn.now in
    let end = c.commit.new.self.0 in
    let cells = c.args.rows.now in
    let begun = c.transaction-tx.ensures.begun in
    let same : end ≡ c.conn-2-1.given.0 = search rules in
    let first = state g.S.Store (record old { in_transaction = true }) in
    let P : Trees → Type 0 = AreNewTrees cells first.now.trees in
    let made = λ (clean-2 : HasCleanDisk (state g.S.Store last)).
    let clean-1 : HasCleanDisk (state g.S.Store mid) = omega (arith, c.run.ensures.survives.clean, clean-2) in
    let put = (rw begun at c.in_ok-put_rows.ensures.put) clean-1 refl (has_table first.now cells is) in
    let inside = (rw begun at c.in_ok-put_rows.ensures.inside) clean-1 refl in
    let ran = c.in_ok-run.ensures.runs clean-2 inside in
    let raised = put_version_does (state g.S.Store mid) (state g.S.Store last) c.in_ok-run.field-0 put.schema
    (still_meta cells first.now (state g.S.Store mid).now is put) ran.0 in
    (all_done first.now (state g.S.Store mid).now (state g.S.Store last).now cells is c.requires.rise put raised).1 in
    let whole = survives_begin g.S.Store old (state g.S.Store end) P
    (whole_survives first (state g.S.Store mid) (state g.S.Store last) (state g.S.Store end) P (rw begun at c.put_rows.ensures.survives) c.run.ensures.survives
    c.commit.ensures.survives made) in
    subst (λ h. Survives (state g.S.Store old) (state g.S.Store h) P) same whole
