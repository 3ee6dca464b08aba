use Rattle.std.proofs.Common.{◌∙◌, inl, sym, arith}
use Rattle.std.proofs.lemmas.Bool.{false≢true}
use Rattle.std.specs.Prelude.{IsTrue}
use Rattle.sqlite.specs.Held.{state}
use Rattle.sqlite.specs.State.{HasCleanDisk}
use Rattle.kt_sql_tables.specs.Settled.{IsSettled}
use Rattle.kt_sql_tables.proofs.AnswerLemmas.{each_err}
use Rattle.kt_sql_tables.proofs.CarryLemmas.{cells_for, is_carried, is_old, rise_by_id, stop_lasts, stop_leaves, to_carry, was_settled}
use Rattle.kt_sql_tables.proofs.carrying.carried.Goals as goal

pub put_in_one-requires-clause-rise : goal.put_in_one-requires-clause-rise
put_in_one-requires-clause-rise g c =
    let content = c.args.store.now.content in
    let olds = c.in_ok-are_old.ensures.these c.if-not-branch.false in
    let given = cells_for c.rows.result.now content.nodes c.deref.result.now c.in_ok-cells.cells.items c.rows.ensures c.deref.ensures.value
    c.in_ok-cells.ensures.value olds.said in
    rise_by_id c.deref.result.now content.nodes given.1 olds.said olds.rise

pub returns-then-not-branch-clause-other : goal.returns-then-not-branch-clause-other
returns-then-not-branch-clause-other g c clean _ =
    let old = state g.S.Store c.args.conn.now in
    let settled : IsTrue old.is_open → IsSettled old =
    was_settled old c.is_autocommit-is_settled.result c.is_autocommit-is_settled.ensures.value c.is_autocommit-is_settled.ensures.settled c.requires in
    λ held. false≢true (sym c.if-not-branch.true ∙ (c.in_ok-are_old.ensures.value clean settled).1 held)

pub returns-then-not-branch-clause-unchanged : goal.returns-then-not-branch-clause-unchanged
returns-then-not-branch-clause-unchanged g c clean on _ =
    let old = state g.S.Store c.args.conn.now in
    let settled : IsTrue old.is_open → IsSettled old =
    was_settled old c.is_autocommit-is_settled.result c.is_autocommit-is_settled.ensures.value c.is_autocommit-is_settled.ensures.settled c.requires in
    (c.are_old.ensures.same clean on (settled (c.are_old.ensures.was_open clean on))).0

pub returns-then-not-branch-clause-stop : goal.returns-then-not-branch-clause-stop
returns-then-not-branch-clause-stop g c clean on db may =
    let old = state g.S.Store c.args.conn.now in
    let settled : IsTrue old.is_open → IsSettled old =
    was_settled old c.is_autocommit-is_settled.result c.is_autocommit-is_settled.ensures.value c.is_autocommit-is_settled.ensures.settled c.requires in
    inl (g.met.S.Store.settled c.args.conn.now.store db on (c.are_old.ensures.leaves clean settled db may))

pub returns-in_err-are_old-clause-stop : goal.returns-in_err-are_old-clause-stop
returns-in_err-are_old-clause-stop g c clean on db may =
    let old = state g.S.Store c.args.conn.now in
    let settled : IsTrue old.is_open → IsSettled old =
    was_settled old c.is_autocommit-is_settled.result c.is_autocommit-is_settled.ensures.value c.is_autocommit-is_settled.ensures.settled c.requires in
    inl (g.met.S.Store.settled c.args.conn.now.store db on (c.are_old.ensures.leaves clean settled db may))

pub returns-in_err-cells-clause-stop : goal.returns-in_err-cells-clause-stop
returns-in_err-cells-clause-stop g c clean on db may =
    let old = state g.S.Store c.args.conn.now in
    let settled : IsTrue old.is_open → IsSettled old =
    was_settled old c.is_autocommit-is_settled.result c.is_autocommit-is_settled.ensures.value c.is_autocommit-is_settled.ensures.settled c.requires in
    inl (g.met.S.Store.settled c.args.conn.now.store db on (c.are_old.ensures.leaves clean settled db may))

pub returns-in_err-are_old-clause-refused : goal.returns-in_err-are_old-clause-refused
returns-in_err-are_old-clause-refused g c clean on =
    let old = state g.S.Store c.args.conn.now in
    let settled : IsTrue old.is_open → IsSettled old =
    was_settled old c.is_autocommit-is_settled.result c.is_autocommit-is_settled.ensures.value c.is_autocommit-is_settled.ensures.settled c.requires in
    each_err _ _ ((c.are_old.ensures.same clean on (settled (c.are_old.ensures.was_open clean on))).0)

pub returns-in_err-cells-clause-refused : goal.returns-in_err-cells-clause-refused
returns-in_err-cells-clause-refused g c clean on =
    let old = state g.S.Store c.args.conn.now in
    let settled : IsTrue old.is_open → IsSettled old =
    was_settled old c.is_autocommit-is_settled.result c.is_autocommit-is_settled.ensures.value c.is_autocommit-is_settled.ensures.settled c.requires in
    each_err _ _ ((c.are_old.ensures.same clean on (settled (c.are_old.ensures.was_open clean on))).0)

pub returns-in-Ok-clause-done : goal.returns-in-Ok-clause-done
returns-in-Ok-clause-done g c clean _ =
    let old = state g.S.Store c.args.conn.now in
    let mid = state g.S.Store c.are_old.new.conn in
    let end = state g.S.Store c.put_in_one.new.conn in
    let content = c.args.store.now.content in
    let settled : IsTrue old.is_open → IsSettled old =
    was_settled old c.is_autocommit-is_settled.result c.is_autocommit-is_settled.ensures.value c.is_autocommit-is_settled.ensures.settled c.requires in
    let clean-1 : HasCleanDisk mid = omega (arith, c.put_in_one.ensures.clean, clean) in
    let it = to_carry old mid content c.in_ok-are_old.field-0 c.if-not-branch.false clean-1 settled (c.in_ok-are_old.ensures.is_open clean-1)
    c.are_old.ensures.was_open c.are_old.ensures.same (c.in_ok-are_old.ensures.value clean-1 settled) in
    let olds = c.in_ok-are_old.ensures.these c.if-not-branch.false in
    let given = cells_for c.rows.result.now content.nodes c.deref.result.now c.in_ok-cells.cells.items c.rows.ensures c.deref.ensures.value
    c.in_ok-cells.ensures.value olds.said in (
      it.was,
      is_carried content c.deref.result.now mid.now end it.is given.1 given.0
          (c.in-Ok.ensures.made clean (is_old mid.now content c.deref.result.now it.is given.1)),
    )

pub returns-in-Ok-clause-stop : goal.returns-in-Ok-clause-stop
returns-in-Ok-clause-stop g c clean on db may =
    let old = state g.S.Store c.args.conn.now in
    let mid = state g.S.Store c.are_old.new.conn in
    let end = state g.S.Store c.put_in_one.new.conn in
    let content = c.args.store.now.content in
    let settled : IsTrue old.is_open → IsSettled old =
    was_settled old c.is_autocommit-is_settled.result c.is_autocommit-is_settled.ensures.value c.is_autocommit-is_settled.ensures.settled c.requires in
    let clean-1 : HasCleanDisk mid = omega (arith, c.put_in_one.ensures.clean, clean) in
    let it = to_carry old mid content c.in_ok-are_old.field-0 c.if-not-branch.false clean-1 settled (c.in_ok-are_old.ensures.is_open clean-1)
    c.are_old.ensures.was_open c.are_old.ensures.same (c.in_ok-are_old.ensures.value clean-1 settled) in
    let olds = c.in_ok-are_old.ensures.these c.if-not-branch.false in
    let given = cells_for c.rows.result.now content.nodes c.deref.result.now c.in_ok-cells.cells.items c.rows.ensures c.deref.ensures.value
    c.in_ok-cells.ensures.value olds.said in
    stop_leaves old mid end content c.deref.result.now it.is given.1 given.0 (λ t before. g.met.S.Store.settled c.args.conn.now.store t on before)
    (c.are_old.ensures.leaves clean-1 settled)
    (c.put_in_one.ensures.survives (is_old mid.now content c.deref.result.now it.is given.1)) clean db may

pub returns-clause-stop : goal.returns-clause-stop
returns-clause-stop g c clean on db may =
    let old = state g.S.Store c.args.conn.now in
    let mid = state g.S.Store c.are_old.new.conn in
    let end = state g.S.Store c.put_in_one.new.conn in
    let content = c.args.store.now.content in
    let settled : IsTrue old.is_open → IsSettled old =
    was_settled old c.is_autocommit-is_settled.result c.is_autocommit-is_settled.ensures.value c.is_autocommit-is_settled.ensures.settled c.requires in
    let clean-1 : HasCleanDisk mid = omega (arith, c.put_in_one.ensures.clean, clean) in
    let it = to_carry old mid content c.in_ok-are_old.field-0 c.if-not-branch.false clean-1 settled (c.in_ok-are_old.ensures.is_open clean-1)
    c.are_old.ensures.was_open c.are_old.ensures.same (c.in_ok-are_old.ensures.value clean-1 settled) in
    let olds = c.in_ok-are_old.ensures.these c.if-not-branch.false in
    let given = cells_for c.rows.result.now content.nodes c.deref.result.now c.in_ok-cells.cells.items c.rows.ensures c.deref.ensures.value
    c.in_ok-cells.ensures.value olds.said in
    stop_leaves old mid end content c.deref.result.now it.is given.1 given.0 (λ t before. g.met.S.Store.settled c.args.conn.now.store t on before)
    (c.are_old.ensures.leaves clean-1 settled)
    (c.put_in_one.ensures.survives (is_old mid.now content c.deref.result.now it.is given.1)) clean db may

pub returns-in-Ok-clause-lasts : goal.returns-in-Ok-clause-lasts
returns-in-Ok-clause-lasts g c clean _ db may =
    let old = state g.S.Store c.args.conn.now in
    let mid = state g.S.Store c.are_old.new.conn in
    let end = state g.S.Store c.put_in_one.new.conn in
    let content = c.args.store.now.content in
    let settled : IsTrue old.is_open → IsSettled old =
    was_settled old c.is_autocommit-is_settled.result c.is_autocommit-is_settled.ensures.value c.is_autocommit-is_settled.ensures.settled c.requires in
    let clean-1 : HasCleanDisk mid = omega (arith, c.put_in_one.ensures.clean, clean) in
    let it = to_carry old mid content c.in_ok-are_old.field-0 c.if-not-branch.false clean-1 settled (c.in_ok-are_old.ensures.is_open clean-1)
    c.are_old.ensures.was_open c.are_old.ensures.same (c.in_ok-are_old.ensures.value clean-1 settled) in
    let olds = c.in_ok-are_old.ensures.these c.if-not-branch.false in
    let given = cells_for c.rows.result.now content.nodes c.deref.result.now c.in_ok-cells.cells.items c.rows.ensures c.deref.ensures.value
    c.in_ok-cells.ensures.value olds.said in
    stop_lasts mid end content c.deref.result.now it.is given.1 given.0
    (λ t on left. g.met.S.Store.settled c.put_in_one.new.conn.store t on left)
    (c.in-Ok.ensures.made clean (is_old mid.now content c.deref.result.now it.is given.1)) db may

pub returns-clause-refused : goal.returns-clause-refused
returns-clause-refused g c clean on =
    let old = state g.S.Store c.args.conn.now in
    let mid = state g.S.Store c.are_old.new.conn in
    let end = state g.S.Store c.put_in_one.new.conn in
    let content = c.args.store.now.content in
    let settled : IsTrue old.is_open → IsSettled old =
    was_settled old c.is_autocommit-is_settled.result c.is_autocommit-is_settled.ensures.value c.is_autocommit-is_settled.ensures.settled c.requires in
    let clean-1 : HasCleanDisk mid = omega (arith, c.put_in_one.ensures.clean, clean) in
    let it = to_carry old mid content c.in_ok-are_old.field-0 c.if-not-branch.false clean-1 settled (c.in_ok-are_old.ensures.is_open clean-1)
    c.are_old.ensures.was_open c.are_old.ensures.same (c.in_ok-are_old.ensures.value clean-1 settled) in
    (c.in-Err.ensures.none clean on).0 ∙ sym it.settled.same ∙ it.same
