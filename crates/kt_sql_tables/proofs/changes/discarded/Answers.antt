use Rattle.kt_sql_tables.proofs.CellLemmas.{discarded_is}
use Rattle.kt_sql_tables.proofs.changes.discarded.Goals as goal

pub returns-clause-said : goal.returns-clause-said
returns-clause-said c h = (discarded_is c.args.cells h).said

pub returns-clause-value : goal.returns-clause-value
returns-clause-value c h = (discarded_is c.args.cells h).value
