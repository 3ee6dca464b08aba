use Rattle.std.proofs.Common.{Bool, ◌&&◌, ap, sym, subst, ◌∙◌}
use Rattle.std.specs.Prelude.{◌↔◌, IsTrue}
use Rattle.sqlite.specs.Held.{state}
use Rattle.kt_sql_tables.specs.Opened.{HasNoRow}
use Rattle.kt_sql_tables.proofs.OpenedLemmas.{both_leave, no_row_told}
use Rattle.kt_sql_tables.proofs.Texts.{all_nodes_is, all_instance_rows_is}
use Rattle.kt_sql_tables.proofs.opened.has_no_row.Goals as goal

pub answers_nothing-requires : goal.answers_nothing-requires
answers_nothing-requires g c = all_nodes_is.plain

pub answers_nothing-requires-2 : goal.answers_nothing-requires-2
answers_nothing-requires-2 g c = all_instance_rows_is.plain

pub returns-then-no_nodes-clause-value : goal.returns-then-no_nodes-clause-value
returns-then-no_nodes-clause-value g c clean settled has =
    let old = state g.S.Store c.args.conn.now in
    let last = state g.S.Store c.answers_nothing-2.new.conn in
    subst (λ (t : Bool). IsTrue (t && c.in_ok-no_instance_row.no_instance_row) ↔ HasNoRow old.now) c.if-no_nodes.true
    (no_row_told old (state g.S.Store c.answers_nothing.new.conn) last c.in_ok-no_nodes.no_nodes c.in_ok-no_instance_row.no_instance_row clean
    (c.in_ok-no_instance_row.ensures.is_open clean) settled c.answers_nothing.ensures.looks c.answers_nothing-2.ensures.looks has
    c.in_ok-no_nodes.ensures.value c.in_ok-no_instance_row.ensures.value)

pub returns-else-no_nodes-clause-value : goal.returns-else-no_nodes-clause-value
returns-else-no_nodes-clause-value g c clean settled has =
    let old = state g.S.Store c.args.conn.now in
    let last = state g.S.Store c.answers_nothing-2.new.conn in
    let told = c.if-no_nodes.false in
    subst (λ (t : Bool). IsTrue t ↔ HasNoRow old.now) (ap (λ t. t && c.in_ok-no_instance_row.no_instance_row) told ∙ sym told)
    (no_row_told old (state g.S.Store c.answers_nothing.new.conn) last c.in_ok-no_nodes.no_nodes c.in_ok-no_instance_row.no_instance_row clean
    (c.in_ok-no_instance_row.ensures.is_open clean) settled c.answers_nothing.ensures.looks c.answers_nothing-2.ensures.looks has
    c.in_ok-no_nodes.ensures.value c.in_ok-no_instance_row.ensures.value)

pub returns-in_err-no_nodes-clause-leaves : goal.returns-in_err-no_nodes-clause-leaves
returns-in_err-no_nodes-clause-leaves g c clean settled has db may = c.answers_nothing.ensures.looks.leaves clean has db may

pub returns-in_err-no_instance_row-clause-leaves : goal.returns-in_err-no_instance_row-clause-leaves
returns-in_err-no_instance_row-clause-leaves g c clean settled has db may =
    both_leave (state g.S.Store c.args.conn.now) (state g.S.Store c.answers_nothing.new.conn) (state g.S.Store c.answers_nothing-2.new.conn) clean settled has
    c.answers_nothing.ensures.looks c.in_ok-no_nodes.ensures.is_open c.answers_nothing-2.ensures.looks db may

pub returns-then-no_nodes-clause-leaves : goal.returns-then-no_nodes-clause-leaves
returns-then-no_nodes-clause-leaves g c clean settled has db may =
    both_leave (state g.S.Store c.args.conn.now) (state g.S.Store c.answers_nothing.new.conn) (state g.S.Store c.answers_nothing-2.new.conn) clean settled has
    c.answers_nothing.ensures.looks c.in_ok-no_nodes.ensures.is_open c.answers_nothing-2.ensures.looks db may

pub returns-else-no_nodes-clause-leaves : goal.returns-else-no_nodes-clause-leaves
returns-else-no_nodes-clause-leaves g c clean settled has db may =
    both_leave (state g.S.Store c.args.conn.now) (state g.S.Store c.answers_nothing.new.conn) (state g.S.Store c.answers_nothing-2.new.conn) clean settled has
    c.answers_nothing.ensures.looks c.in_ok-no_nodes.ensures.is_open c.answers_nothing-2.ensures.looks db may
