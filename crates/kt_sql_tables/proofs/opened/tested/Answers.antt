use Rattle.std.proofs.Common.{◌∙◌, Bool, ◌&&◌, ap, sym, subst}
use Rattle.sqlite.specs.Held.{state}
use Rattle.kt_sql_tables.specs.Opened.{IsReady}
use Rattle.kt_sql_tables.proofs.OpenedLemmas.{both_leave, tested_ready}
use Rattle.kt_sql_tables.proofs.Texts.{all_nodes_is, all_instance_rows_is}
use Rattle.kt_sql_tables.proofs.opened.tested.Goals as goal

pub answers_said-requires : goal.answers_said-requires
answers_said-requires g c = all_nodes_is.plain

pub answers_said-requires-2 : goal.answers_said-requires-2
answers_said-requires-2 g c = all_instance_rows_is.plain

pub returns-then-are_nodes-clause-ready : goal.returns-then-are_nodes-clause-ready
returns-then-are_nodes-clause-ready g c clean settled version =
    let last = state g.S.Store c.answers_said-2.new.conn in
    subst (λ (t : Bool). IsReady last (t && c.in_ok-are_instance_rows.are_instance_rows)) c.if-are_nodes.true
    (tested_ready (state g.S.Store c.args.conn.now) (state g.S.Store c.answers_said.new.conn) last
    c.in_ok-are_nodes.are_nodes c.in_ok-are_instance_rows.are_instance_rows clean (c.in_ok-are_instance_rows.ensures.is_open clean) settled
    c.answers_said.ensures.looks c.answers_said-2.ensures.looks version
    c.in_ok-are_nodes.ensures.value c.in_ok-are_instance_rows.ensures.value)

pub returns-else-are_nodes-clause-ready : goal.returns-else-are_nodes-clause-ready
returns-else-are_nodes-clause-ready g c clean settled version =
    let last = state g.S.Store c.answers_said-2.new.conn in
    let told = c.if-are_nodes.false in
    subst (IsReady last) (ap (λ t. t && c.in_ok-are_instance_rows.are_instance_rows) told ∙ sym told)
    (tested_ready (state g.S.Store c.args.conn.now) (state g.S.Store c.answers_said.new.conn) last
    c.in_ok-are_nodes.are_nodes c.in_ok-are_instance_rows.are_instance_rows clean (c.in_ok-are_instance_rows.ensures.is_open clean) settled
    c.answers_said.ensures.looks c.answers_said-2.ensures.looks version
    c.in_ok-are_nodes.ensures.value c.in_ok-are_instance_rows.ensures.value)

pub returns-in_err-are_nodes-clause-leaves : goal.returns-in_err-are_nodes-clause-leaves
returns-in_err-are_nodes-clause-leaves g c clean settled version db may = c.answers_said.ensures.looks.leaves clean version.schema db may

pub returns-in_err-are_instance_rows-clause-leaves : goal.returns-in_err-are_instance_rows-clause-leaves
returns-in_err-are_instance_rows-clause-leaves g c clean settled version db may =
    both_leave (state g.S.Store c.args.conn.now) (state g.S.Store c.answers_said.new.conn) (state g.S.Store c.answers_said-2.new.conn) clean settled
    version.schema
    c.answers_said.ensures.looks c.in_ok-are_nodes.ensures.is_open c.answers_said-2.ensures.looks db may

pub returns-then-are_nodes-clause-leaves : goal.returns-then-are_nodes-clause-leaves
returns-then-are_nodes-clause-leaves g c clean settled version db may =
    both_leave (state g.S.Store c.args.conn.now) (state g.S.Store c.answers_said.new.conn) (state g.S.Store c.answers_said-2.new.conn) clean settled
    version.schema
    c.answers_said.ensures.looks c.in_ok-are_nodes.ensures.is_open c.answers_said-2.ensures.looks db may

pub returns-else-are_nodes-clause-leaves : goal.returns-else-are_nodes-clause-leaves
returns-else-are_nodes-clause-leaves g c clean settled version db may =
    both_leave (state g.S.Store c.args.conn.now) (state g.S.Store c.answers_said.new.conn) (state g.S.Store c.answers_said-2.new.conn) clean settled
    version.schema
    c.answers_said.ensures.looks c.in_ok-are_nodes.ensures.is_open c.answers_said-2.ensures.looks db may
