use Rattle.std.proofs.Common.{◌∙◌, inl, inr, refl, sym, subst, arith}
use Rattle.std.proofs.lemmas.Bool.{false≢true}
use Rattle.sqlite.specs.Held.{state}
use Rattle.sqlite.specs.State.{HasCleanDisk}
use Rattle.kt_sql_tables.specs.Opened.{HasNoRow, IsOldVersion}
use Rattle.kt_sql_tables.proofs.AnswerLemmas.{each_err}
use Rattle.kt_sql_tables.proofs.ready.raised.Goals as goal

pub returns-then-not-branch-clause-version : goal.returns-then-not-branch-clause-version
returns-then-not-branch-clause-version g c clean settled version _ none =
    let was = settled (c.has_no_row.ensures.was_open clean (c.in_ok-has_no_row.ensures.is_open clean)) in
    false≢true (sym c.if-not-branch.true ∙ (c.in_ok-has_no_row.ensures.value clean was version.schema).1 none)

pub returns-then-not-branch-clause-unchanged : goal.returns-then-not-branch-clause-unchanged
returns-then-not-branch-clause-unchanged g c clean on settled version =
    (c.has_no_row.ensures.same clean on (settled (c.has_no_row.ensures.was_open clean on)) version.schema).0

pub returns-in_err-has_no_row-clause-unchanged : goal.returns-in_err-has_no_row-clause-unchanged
returns-in_err-has_no_row-clause-unchanged g c clean on settled version =
    each_err _ _ ((c.has_no_row.ensures.same clean on (settled (c.has_no_row.ensures.was_open clean on)) version.schema).0)

pub returns-in_err-raise-clause-unchanged : goal.returns-in_err-raise-clause-unchanged
returns-in_err-raise-clause-unchanged g c clean on settled version =
    let clean-1 : HasCleanDisk (state g.S.Store c.has_no_row.new.conn) = omega (arith, c.raise.ensures.clean, clean) in
    let on-1 = c.raise.ensures.was_open clean on in
    let same = c.has_no_row.ensures.same clean-1 on-1 (settled (c.has_no_row.ensures.was_open clean-1 on-1)) version.schema in
    each_err _ _ (c.in_err-raise.ensures.unchanged clean on same.1 ∙ same.0)

pub returns-clause-made : goal.returns-clause-made
returns-clause-made g c clean settled version =
    let clean-1 : HasCleanDisk (state g.S.Store c.has_no_row.new.conn) = omega (arith, c.raise.ensures.clean, clean) in
    let on-1 = c.in_ok-has_no_row.ensures.is_open clean-1 in
    let was = settled (c.has_no_row.ensures.was_open clean-1 on-1) in
    let same = c.has_no_row.ensures.same clean-1 on-1 was version.schema in
    let none = (c.in_ok-has_no_row.ensures.value clean-1 was version.schema).0 c.if-not-branch.false in
    (refl, none, c.in_ok-raise.ensures.made clean same.1 (subst IsOldVersion (sym same.0) version) (subst HasNoRow (sym same.0) none))

pub returns-then-not-branch-clause-stop : goal.returns-then-not-branch-clause-stop
returns-then-not-branch-clause-stop g c clean settled on version db may = inl (c.has_no_row.ensures.leaves clean (settled on) version.schema db may)

pub returns-in_err-has_no_row-clause-stop : goal.returns-in_err-has_no_row-clause-stop
returns-in_err-has_no_row-clause-stop g c clean settled on version db may = inl (c.has_no_row.ensures.leaves clean (settled on) version.schema db may)

pub returns-clause-stop : goal.returns-clause-stop
returns-clause-stop g c clean settled on version db may =
    let clean-1 : HasCleanDisk (state g.S.Store c.has_no_row.new.conn) = omega (arith, c.raise.ensures.clean, clean) in
    let was = settled on in
    let same = c.has_no_row.ensures.same clean-1 (c.in_ok-has_no_row.ensures.is_open clean-1) was version.schema in
    let none = (c.in_ok-has_no_row.ensures.value clean-1 was version.schema).0 c.if-not-branch.false in
    let survives = c.raise.ensures.survives (subst IsOldVersion (sym same.0) version) (subst HasNoRow (sym same.0) none) in
    elim (survives.crash clean db may) [
      | inl before ↦ inl (c.has_no_row.ensures.leaves clean-1 was version.schema db before)
      | inr made ↦ inr (none, made)
    ]

pub returns-in_err-raise-clause-stop : goal.returns-in_err-raise-clause-stop
returns-in_err-raise-clause-stop g c clean settled on version db may =
    let clean-1 : HasCleanDisk (state g.S.Store c.has_no_row.new.conn) = omega (arith, c.raise.ensures.clean, clean) in
    let was = settled on in
    let same = c.has_no_row.ensures.same clean-1 (c.in_ok-has_no_row.ensures.is_open clean-1) was version.schema in
    let none = (c.in_ok-has_no_row.ensures.value clean-1 was version.schema).0 c.if-not-branch.false in
    let survives = c.raise.ensures.survives (subst IsOldVersion (sym same.0) version) (subst HasNoRow (sym same.0) none) in
    elim (survives.crash clean db may) [
      | inl before ↦ inl (c.has_no_row.ensures.leaves clean-1 was version.schema db before)
      | inr made ↦ inr (none, made)
    ]
