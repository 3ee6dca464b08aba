use Rattle.kt_sql_tables.proofs.CellLemmas.{taken_is}
use Rattle.kt_sql_tables.proofs.cells.with_tentative.Goals as goal

pub returns-clause-said : goal.returns-clause-said
returns-clause-said c h =
    let spelt = c.in_ok-encoded.ensures in
    (taken_is c.args.cells c.in_ok-encoded.field-0 c.args.instance c.args.ckpt.now c.args.instance.low spelt.0 spelt.1 h).said

pub returns-clause-value : goal.returns-clause-value
returns-clause-value c h =
    let spelt = c.in_ok-encoded.ensures in
    (taken_is c.args.cells c.in_ok-encoded.field-0 c.args.instance c.args.ckpt.now c.args.instance.low spelt.0 spelt.1 h).value
