-- Of `Tables::find_instance` in src/reads.rt.
use Rattle.std.proofs.Common.{[], ◌∷◌, slice_get, sym, ap, ◌∙◌}
use Rattle.sqlite.specs.Held.{state}
use Rattle.sqlite.specs.State.{Shown}
use Rattle.kt_sql_tables.specs.auxiliary.Text.{get_instance_row_text}
use Rattle.kt_sql_tables.specs.Rows.{whole}
use Rattle.kt_sql_tables.specs.Held.{is_sound}
use Rattle.kt_sql_tables.proofs.Texts.{get_instance_row_is}
use Rattle.kt_sql_tables.proofs.AnswerLemmas.{each_on, gives_value, gives_memory, read_reason, instance_row_read, no_instance_row_read}
use Rattle.kt_sql_tables.proofs.held.Tables.find_instance.Goals as goal

pub ask-requires : goal.ask-requires
ask-requires g c = get_instance_row_is.plain

pub returns-in_default-clause-value : goal.returns-in_default-clause-value
returns-in_default-clause-value g c sure =
    sym (no_instance_row_read g.S.Store c.args.self.now (c.allocator-alloc.ensures.kept sure) c.args.instance c.in_default.ensures)

pub returns-clause-value : goal.returns-clause-value
returns-clause-value g c sure =
    let shown : Shown get_instance_row_text (whole c.args.instance ∷ []) (state g.S.Store c.args.self.now.conn)
    (state g.S.Store c.ask.new.self.conn) c.in_ok-rows.rows.items =
    rw (c.params-to_sql.ensures, c.in-Some.ensures) at (c.in_ok-rows.ensures.shown sure) in
    let read = instance_row_read g.S.Store c.args.self.now c.ask.new.self (c.in_ok-rows.ensures.kept sure)
    (c.in_ok-rows.ensures.same sure) c.args.instance c.in_ok-rows.rows.items shown in
    gives_value _ c.first_of.result (c.first_of.ensures.exact _ read.1 (ap (λ rows. slice_get rows 0) c.deref.ensures.value ∙ read.0))

pub returns-clause-reason : goal.returns-clause-reason
returns-clause-reason g c =
    read_reason (is_sound g.S.Store c.ask.new.self) c.first_of.result c.first_of.ensures.named (λ sound.
    let sure = c.in_ok-rows.ensures.sure sound in
    let shown : Shown get_instance_row_text (whole c.args.instance ∷ []) (state g.S.Store c.args.self.now.conn)
    (state g.S.Store c.ask.new.self.conn) c.in_ok-rows.rows.items =
    rw (c.params-to_sql.ensures, c.in-Some.ensures) at (c.in_ok-rows.ensures.shown sure) in
    let read = instance_row_read g.S.Store c.args.self.now c.ask.new.self (c.in_ok-rows.ensures.kept sure)
    (c.in_ok-rows.ensures.same sure) c.args.instance c.in_ok-rows.rows.items shown in
    gives_memory _ c.first_of.result (c.first_of.ensures.exact _ read.1 (ap (λ rows. slice_get rows 0) c.deref.ensures.value ∙ read.0)))

pub returns-clause-answers : goal.returns-clause-answers
returns-clause-answers g c clean = let it = c.in_ok-rows.ensures.answers clean in (it.0, λ sure. each_on c.first_of.result _ (it.1 sure))
