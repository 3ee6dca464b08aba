use Rattle.std.proofs.Common.{◌≡◌, map, take}
use Rattle.kt_store.specs.declared.rows.NodeRow.{NodeRow}
use Rattle.kt_store.proofs.contents.Contents.node_names.Given as goal

-- the nodes of the rows so far
abbrev pub invariant-loop-row : goal.invariant-loop-row
invariant-loop-row l = l.nodes.items ≡ map (λ (row : NodeRow). row.node) (take l.row-index l.row-items)
