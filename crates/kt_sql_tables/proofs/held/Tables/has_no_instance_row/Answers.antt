-- Of `Tables::has_no_instance_row` in src/reads.rt.
use Rattle.std.proofs.Common.{length, ◌==◌, ap, ◌∙◌}
use Rattle.kt_sql_tables.proofs.Texts.{last_instance_row_is}
use Rattle.kt_sql_tables.proofs.AnswerLemmas.{board_read}
use Rattle.kt_sql_tables.proofs.held.Tables.has_no_instance_row.Goals as goal

pub ask-requires : goal.ask-requires
ask-requires g c = last_instance_row_is.plain

pub returns-clause-value : goal.returns-clause-value
returns-clause-value g c sure =
    let read = board_read g.S.Store c.args.self.now c.ask.new.self (c.in_ok-rows.ensures.kept sure) (c.in_ok-rows.ensures.same sure) c.in_ok-rows.rows.items
    (c.in_ok-rows.ensures.shown sure) in
    c.has_no_row.ensures ∙ ap (λ rows. length rows == 0) c.deref.ensures.value ∙ read
