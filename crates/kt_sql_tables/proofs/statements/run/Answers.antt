use Rattle.std.proofs.Common.{false}
use Rattle.sqlite.specs.Held.{state}
use Rattle.sqlite.proofs.InsideLemmas.{inside_keeps}
use Rattle.kt_sql_tables.proofs.StateLemmas.{stays_inside}
use Rattle.kt_sql_tables.proofs.statements.run.Goals as goal

pub returns-clause-kept : goal.returns-clause-kept
returns-clause-kept g c clean inside =
    inside_keeps (state g.S.Store c.args.tx.now.conn.now) (state g.S.Store c.execute.new.self.conn.now) 0 false _ _ c.execute.result
    (c.execute.ensures.runs clean inside)

pub returns-clause-inside : goal.returns-clause-inside
returns-clause-inside g c clean inside =
    stays_inside 0 _ _ (state g.S.Store c.args.tx.now.conn.now) (state g.S.Store c.execute.new.self.conn.now) c.execute.result
    (c.execute.ensures.runs clean inside)
