-- Of `Tables::nodes` in src/reads.rt.
use Rattle.std.proofs.Common.{◌∙◌}
use Rattle.kt_sql_tables.specs.Held.{is_sound}
use Rattle.kt_sql_tables.proofs.Texts.{all_ids_is}
use Rattle.kt_sql_tables.proofs.AnswerLemmas.{each_on, ids_read, read_reason, was_proper}
use Rattle.kt_sql_tables.proofs.held.Tables.nodes.Goals as goal

pub ask-requires : goal.ask-requires
ask-requires g c = all_ids_is.plain

pub returns-clause-value : goal.returns-clause-value
returns-clause-value g c sure =
    let read = ids_read g.S.Store c.args.self.now c.ask.new.self (c.in_ok-rows.ensures.kept sure) (c.in_ok-rows.ensures.same sure) c.in_ok-rows.rows.items
    (c.in_ok-rows.ensures.shown sure) in
    c.nodes_of.ensures.value _ read.0 (c.deref.ensures.value ∙ read.1)

pub returns-clause-proper : goal.returns-clause-proper
returns-clause-proper g c sure =
    each_on c.nodes_of.result _ (was_proper g.S.Store c.args.self.now c.ask.new.self (c.in_ok-rows.ensures.kept sure) (c.in_ok-rows.ensures.same sure))

pub returns-clause-reason : goal.returns-clause-reason
returns-clause-reason g c =
    read_reason (is_sound g.S.Store c.ask.new.self) c.nodes_of.result c.nodes_of.ensures.named (λ sound.
    let sure = c.in_ok-rows.ensures.sure sound in
    let read = ids_read g.S.Store c.args.self.now c.ask.new.self (c.in_ok-rows.ensures.kept sure) (c.in_ok-rows.ensures.same sure) c.in_ok-rows.rows.items
    (c.in_ok-rows.ensures.shown sure) in
    c.nodes_of.ensures.memory _ read.0 (c.deref.ensures.value ∙ read.1))
