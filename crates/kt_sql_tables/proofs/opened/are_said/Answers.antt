use Rattle.std.proofs.Common.{◌≡◌, ◌∷◌, subst, sym}
use Rattle.std.proofs.lemmas.Bool.{false≢true}
use Rattle.kt_sql_tables.specs.auxiliary.Testing.{IsRowOf, AreRowsFrom}
use Rattle.kt_sql_tables.proofs.OpenedLemmas.{rows_more, rows_too_low}
use Rattle.kt_sql_tables.proofs.opened.are_said.Goals as goal

pub returns-in_default-2-clause-value : goal.returns-in_default-2-clause-value
returns-in_default-2-clause-value g c =
    let given = g.R.Record.given in
    let is_said = g.R.Record.is_said in
    let whole : c.loop-row.rest.now ≡ c.in-Some.row.now ∷ c.in-Some.more.now = c.in-Some.ensures.cases.0 in
    let none : ¬ IsRowOf given is_said c.in-Some.row.now = rw c.in_default-2.is at c.in_ok-number.ensures.value in (
      λ bad. absurd (false≢true bad),
      λ a. absurd (none (subst (AreRowsFrom given is_said c.loop-row.low) whole (c.loop-row.invariant.0 a)).said.0),
    )

pub returns-then-number-low-clause-value : goal.returns-then-number-low-clause-value
returns-then-number-low-clause-value g c =
    let given = g.R.Record.given in
    let is_said = g.R.Record.is_said in
    let whole : c.loop-row.rest.now ≡ c.in-Some.row.now ∷ c.in-Some.more.now = c.in-Some.ensures.cases.0 in
    let found = rw c.in-Some-2.is at c.in_ok-number.ensures.value in (
      λ bad. absurd (false≢true bad),
      λ a. absurd (rows_too_low given is_said c.loop-row.low c.in-Some-2.number _ _ found.1 c.if-number-low.true
          (subst (AreRowsFrom given is_said c.loop-row.low) whole (c.loop-row.invariant.0 a))),
    )

pub loop-row-preserved : goal.loop-row-preserved
loop-row-preserved g c =
    let given = g.R.Record.given in
    let is_said = g.R.Record.is_said in
    let whole : c.loop-row.rest.now ≡ c.in-Some.row.now ∷ c.in-Some.more.now = c.in-Some.ensures.cases.0 in
    let found = rw c.in-Some-2.is at c.in_ok-number.ensures.value in
    let more = rows_more given is_said c.loop-row.low c.in-Some-2.number _ c.in-Some.more.now found.1 found.0 c.if-number-low.false in (
      λ a. more.0 (subst (AreRowsFrom given is_said c.loop-row.low) whole (c.loop-row.invariant.0 a)),
      λ a. c.loop-row.invariant.1 (subst (AreRowsFrom given is_said c.loop-row.low) (sym whole) (more.1 a)),
    )
