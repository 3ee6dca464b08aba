use Rattle.sqlite.specs.Values.{bound}
use Rattle.kt_sql_tables.specs.Rows.{placing}
use Rattle.kt_sql_tables.proofs.AnswerLemmas.{instance_row_change}
use Rattle.kt_sql_tables.proofs.held.Tables.put_instance_row.Goals as goal

pub write-requires : goal.write-requires
write-requires g c =
    let good = c.in-Some.ensures in
    (placing c.args.row, λ _. instance_row_change g.S.Store (bound c.params.result) c.args.row (c.params.ensures c.args.row good.1) good.0)

pub returns-in-Some-clause-written : goal.returns-in-Some-clause-written
returns-in-Some-clause-written g c =
    let good = c.in-Some.ensures in
    c.write.ensures.written (placing c.args.row)
    (λ _. instance_row_change g.S.Store (bound c.params.result) c.args.row (c.params.ensures c.args.row good.1) good.0)

pub returns-in-Some-clause-stop : goal.returns-in-Some-clause-stop
returns-in-Some-clause-stop g c =
    let good = c.in-Some.ensures in
    c.write.ensures.stop (placing c.args.row)
    (λ _. instance_row_change g.S.Store (bound c.params.result) c.args.row (c.params.ensures c.args.row good.1) good.0)
