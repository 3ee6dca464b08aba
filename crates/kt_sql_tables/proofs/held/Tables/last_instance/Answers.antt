-- Of `Tables::last_instance` in src/reads.rt.
use Rattle.std.proofs.Common.{◌≡◌, slice_get, IfOk, subst, ap, ◌∙◌}
use Rattle.kt_sql_tables.specs.Held.{content_of, is_sound}
use Rattle.kt_sql_tables.proofs.Texts.{last_instance_row_is}
use Rattle.kt_sql_tables.proofs.AnswerLemmas.{each_on, gives_value, gives_memory, read_reason, last_read, last_number}
use Rattle.kt_sql_tables.proofs.held.Tables.last_instance.Goals as goal

pub ask-requires : goal.ask-requires
ask-requires g c = last_instance_row_is.plain

pub returns-clause-value : goal.returns-clause-value
returns-clause-value g c sure =
    let read = last_read g.S.Store c.args.self.now c.ask.new.self (c.in_ok-rows.ensures.kept sure) (c.in_ok-rows.ensures.same sure) c.in_ok-rows.rows.items
    (c.in_ok-rows.ensures.shown sure) in
    subst (λ n. IfOk c.first_number.result (λ o. o ≡ n)) (last_number (content_of g.S.Store c.args.self.now).board)
    (gives_value _ c.first_number.result (c.first_number.ensures.exact _ read.1 (ap (λ rows. slice_get rows 0) c.deref.ensures.value ∙ read.0)))

pub returns-clause-reason : goal.returns-clause-reason
returns-clause-reason g c =
    read_reason (is_sound g.S.Store c.ask.new.self) c.first_number.result c.first_number.ensures.named (λ sound.
    let sure = c.in_ok-rows.ensures.sure sound in
    let read = last_read g.S.Store c.args.self.now c.ask.new.self (c.in_ok-rows.ensures.kept sure) (c.in_ok-rows.ensures.same sure) c.in_ok-rows.rows.items
    (c.in_ok-rows.ensures.shown sure) in
    gives_memory _ c.first_number.result (c.first_number.ensures.exact _ read.1 (ap (λ rows. slice_get rows 0) c.deref.ensures.value ∙ read.0)))

pub returns-clause-answers : goal.returns-clause-answers
returns-clause-answers g c clean = let it = c.in_ok-rows.ensures.answers clean in (it.0, λ sure. each_on c.first_number.result _ (it.1 sure))
