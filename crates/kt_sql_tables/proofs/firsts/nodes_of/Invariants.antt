use Rattle.std.proofs.Common.{◌≡◌, List, map, take}
use Rattle.std.specs.List.{AllByRecursion}
use Rattle.kt_store.specs.declared.rows.NodeRow.{NodeRow}
use Rattle.kt_sql_tables.specs.Rows.{IsNodeRow}
use Rattle.kt_sql_tables.specs.auxiliary.Showing.{id_given}
use Rattle.kt_sql_tables.proofs.firsts.nodes_of.Given as goal

-- the nodes of the rows so far, whatever rows of nodes these show
abbrev pub invariant-loop-row : goal.invariant-loop-row
invariant-loop-row l =
    (ns : List NodeRow) → AllByRecursion IsNodeRow ns → l.rows ≡ map id_given ns
    → l.nodes.items ≡ map (λ (r : NodeRow). r.node) (take l.row-index ns)
