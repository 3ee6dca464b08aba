use Rattle.sqlite.specs.Values.{bound}
use Rattle.kt_store.specs.Changes.{storing}
use Rattle.kt_sql_tables.specs.Cells.{cells_node}
use Rattle.kt_sql_tables.proofs.AnswerLemmas.{cells_change}
use Rattle.kt_sql_tables.proofs.held.Tables.put_node.Goals as goal

pub write-requires : goal.write-requires
write-requires g c =
    (storing (cells_node c.args.cells), λ sure. cells_change g.S.Store (bound c.params.result) c.args.cells c.params.ensures (c.requires sure))

pub returns-clause-written : goal.returns-clause-written
returns-clause-written g c =
    c.write.ensures.written (storing (cells_node c.args.cells))
    (λ sure. cells_change g.S.Store (bound c.params.result) c.args.cells c.params.ensures (c.requires sure))

pub returns-clause-stop : goal.returns-clause-stop
returns-clause-stop g c =
    c.write.ensures.stop (storing (cells_node c.args.cells))
    (λ sure. cells_change g.S.Store (bound c.params.result) c.args.cells c.params.ensures (c.requires sure))
