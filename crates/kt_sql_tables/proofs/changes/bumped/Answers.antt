use Rattle.kt_sql_tables.proofs.CellLemmas.{bumped_is}
use Rattle.kt_sql_tables.proofs.changes.bumped.Goals as goal

pub returns-in-Some-clause-said : goal.returns-in-Some-clause-said
returns-in-Some-clause-said c h = (bumped_is c.args.cells c.in-Some.incarnation c.in-Some.ensures c.in-Some.incarnation.low h).said

pub returns-in-Some-clause-value : goal.returns-in-Some-clause-value
returns-in-Some-clause-value c h = (bumped_is c.args.cells c.in-Some.incarnation c.in-Some.ensures c.in-Some.incarnation.low h).value
