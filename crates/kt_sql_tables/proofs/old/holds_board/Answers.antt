use Rattle.std.proofs.Common.{◌≡◌, List, map, subst}
use Rattle.std.proofs.lemmas.Bool.{false≢true}
use Rattle.std.specs.Prelude.{◌↔◌, IsTrue}
use Rattle.std.specs.List.{AllByRecursion}
use Rattle.sqlite.specs.Held.{state}
use Rattle.sqlite.specs.Order.{Row}
use Rattle.kt_sql_tables.specs.Rows.{IsInstanceRow, instance_row_given}
use Rattle.kt_sql_tables.specs.auxiliary.Text.{all_instance_rows_text}
use Rattle.kt_sql_tables.proofs.OldLemmas.{these_held, these_untold}
use Rattle.kt_sql_tables.proofs.TableRows.{instance_row_table}
use Rattle.kt_sql_tables.proofs.Texts.{all_instance_rows_is, instance_row_names}
use Rattle.kt_sql_tables.proofs.old.holds_board.Goals as goal

pub ask-requires : goal.ask-requires
ask-requires g c = all_instance_rows_is.plain

pub returns-then-not-are_instance_rows-clause-value : goal.returns-then-not-are_instance_rows-clause-value
returns-then-not-are_instance_rows-clause-value g c clean has =
    let xs = c.args.board.now in
    let told = c.are_instance_rows.result in
    let old = state g.S.Store c.args.conn.now in
    let these = subst (λ (rows : List Row). IsTrue told ↔ (AllByRecursion IsInstanceRow xs × (rows ≡ map instance_row_given xs))) c.deref.ensures.value
    c.are_instance_rows.ensures in (
      λ bad. absurd (false≢true bad),
      λ held. absurd (these_untold instance_row_table all_instance_rows_text instance_row_names all_instance_rows_is old (state g.S.Store c.ask.new.conn) has
          c.in_ok-rows.rows.items (c.in_ok-rows.ensures.shown clean) xs told c.if-not-are_instance_rows.true these held),
    )

pub returns-clause-value : goal.returns-clause-value
returns-clause-value g c clean has =
    let xs = c.args.board.now in
    let told = c.are_instance_rows.result in
    let old = state g.S.Store c.args.conn.now in
    let these = subst (λ (rows : List Row). IsTrue told ↔ (AllByRecursion IsInstanceRow xs × (rows ≡ map instance_row_given xs))) c.deref.ensures.value
    c.are_instance_rows.ensures in
    these_held instance_row_table all_instance_rows_text instance_row_names all_instance_rows_is old (state g.S.Store c.ask.new.conn) has
    c.in_ok-rows.rows.items
    (c.in_ok-rows.ensures.shown clean) xs told c.are_rising.result c.if-not-are_instance_rows.false these c.are_rising.ensures
