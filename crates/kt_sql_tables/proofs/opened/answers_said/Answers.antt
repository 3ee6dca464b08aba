use Rattle.std.proofs.Common.{[], List, subst}
use Rattle.std.specs.Prelude.{◌↔◌, IsTrue}
use Rattle.sqlite.specs.Held.{state}
use Rattle.sqlite.specs.Order.{Row}
use Rattle.sqlite.specs.State.{Shown}
use Rattle.kt_sql_tables.specs.auxiliary.Testing.{AreRowsFrom}
use Rattle.kt_sql_tables.proofs.AnswerLemmas.{through_ok}
use Rattle.kt_sql_tables.proofs.opened.answers_said.Goals as goal

pub returns-clause-value : goal.returns-clause-value
returns-clause-value g c clean =
    let given = g.R.Record.given in
    let is_said = g.R.Record.is_said in
    through_ok c.are_said.result _ (λ told. (rows : List Row)
    × Shown c.args.sql.now [] (state g.S.Store c.args.conn.now) (state g.S.Store c.ask.new.conn) rows × (IsTrue told ↔ AreRowsFrom given is_said 0 rows))
    (λ told is. (
      c.in_ok-rows.rows.items,
      c.in_ok-rows.ensures.shown clean,
      subst (λ rows. IsTrue told ↔ AreRowsFrom given is_said 0 rows) c.deref.ensures.value is,
    )) c.are_said.ensures.value
