use Rattle.std.proofs.Common.{◌≡◌, ◌∙◌, refl, true, sym, subst, arith, rules}
use Rattle.sqlite.specs.State.{HasCleanDisk, Survives}
use Rattle.sqlite.specs.Tree.{Trees}
use Rattle.sqlite.proofs.Callers.{survives_begin}
use Rattle.sqlite.specs.Held.{state}
use Rattle.kt_sql_tables.specs.auxiliary.Both.{CommitsBoth, PutsBoth, RanBoth}
use Rattle.kt_sql_tables.specs.Cells.{cells_given}
use Rattle.kt_sql_tables.proofs.CarriedLoop.{whole_survives}
use Rattle.kt_sql_tables.proofs.statements.execute_both.Goals as goal

pub returns-clause-both : goal.returns-clause-both
returns-clause-both g c clean _ p instance_row =
    let old = c.args.conn.now in
    let mid = c.run.new.tx.conn.now in
    let last = c.run-2.new.tx.conn.now in
    let end = c.commit.new.self.0 in
    let begun = c.transaction-tx.ensures.begun in
    let same : end ≡ c.conn-2-1.given.0 = search rules in
    let late : HasCleanDisk (state g.S.Store end) = search rules in
    let later : HasCleanDisk (state g.S.Store last) = omega (arith, c.commit.ensures.survives.clean, late) in
    let one = c.in_ok-run.ensures.runs (omega (arith, c.run-2.ensures.survives.clean, later)) (rw begun) in
    let two = c.in_ok-run-2.ensures.runs later one.1.mode in
    let done = c.in_ok-commit.ensures.ok late in
    let ran : RanBoth g.S.Store (cells_given c.args.node.now) p old end = record {
      puts = record {
        mid = mid;
        last = last;
        counts = (c.in_ok-run.field-0, c.in_ok-run-2.field-0);
        one = rw (begun, c.params.ensures) at one.0;
        two = rw (c.params-2.ensures p instance_row) at two.0;
      };
      was_open = rw begun at one.1.was_open;
      now = done.1.now_is;
      settled = record { autocommit = done.1.mode; same = done.1.now_is ∙ sym done.1.committed_is };
    } in
    subst (RanBoth g.S.Store (cells_given c.args.node.now) p old) same ran

pub returns-clause-survives : goal.returns-clause-survives
returns-clause-survives g c p instance_row =
    let old = c.args.conn.now in
    let mid = c.run.new.tx.conn.now in
    let last = c.run-2.new.tx.conn.now in
    let end = c.commit.new.self.0 in
    let begun = c.transaction-tx.ensures.begun in
    let same : end ≡ c.conn-2-1.given.0 = search rules in
    let first = state g.S.Store (record old { in_transaction = true }) in
    let P : Trees → Type 0 = CommitsBoth g.S.Store (cells_given c.args.node.now) p old in
    let made = λ (later : HasCleanDisk (state g.S.Store last)).
    let one = c.in_ok-run.ensures.runs (omega (arith, c.run-2.ensures.survives.clean, later)) (rw begun) in
    let two = c.in_ok-run-2.ensures.runs later one.1.mode in
    let puts : PutsBoth g.S.Store (cells_given c.args.node.now) p old = record {
      mid = mid;
      last = last;
      counts = (c.in_ok-run.field-0, c.in_ok-run-2.field-0);
      one = rw (begun, c.params.ensures) at one.0;
      two = rw (c.params-2.ensures p instance_row) at two.0;
    } in
    let all : P (state g.S.Store last).now.trees = (puts, refl) in all in
    let whole = survives_begin g.S.Store old (state g.S.Store end) P
    (whole_survives first (state g.S.Store mid) (state g.S.Store last) (state g.S.Store end) P (rw begun at c.run.ensures.survives) c.run-2.ensures.survives
    c.commit.ensures.survives made) in
    subst (λ h. Survives (state g.S.Store old) (state g.S.Store h) P) same whole

pub returns-in_err-commit-clause-survives : goal.returns-in_err-commit-clause-survives
returns-in_err-commit-clause-survives g c p instance_row =
    let old = c.args.conn.now in
    let mid = c.run.new.tx.conn.now in
    let last = c.run-2.new.tx.conn.now in
    let end = c.commit.new.self.0 in
    let begun = c.transaction-tx.ensures.begun in
    let same : end ≡ c.conn-2-1.given.0 = search rules in
    let first = state g.S.Store (record old { in_transaction = true }) in
    let P : Trees → Type 0 = CommitsBoth g.S.Store (cells_given c.args.node.now) p old in
    let made = λ (later : HasCleanDisk (state g.S.Store last)).
    let one = c.in_ok-run.ensures.runs (omega (arith, c.run-2.ensures.survives.clean, later)) (rw begun) in
    let two = c.in_ok-run-2.ensures.runs later one.1.mode in
    let puts : PutsBoth g.S.Store (cells_given c.args.node.now) p old = record {
      mid = mid;
      last = last;
      counts = (c.in_ok-run.field-0, c.in_ok-run-2.field-0);
      one = rw (begun, c.params.ensures) at one.0;
      two = rw (c.params-2.ensures p instance_row) at two.0;
    } in
    let all : P (state g.S.Store last).now.trees = (puts, refl) in all in
    let whole = survives_begin g.S.Store old (state g.S.Store end) P
    (whole_survives first (state g.S.Store mid) (state g.S.Store last) (state g.S.Store end) P (rw begun at c.run.ensures.survives) c.run-2.ensures.survives
    c.commit.ensures.survives made) in
    subst (λ h. Survives (state g.S.Store old) (state g.S.Store h) P) same whole
