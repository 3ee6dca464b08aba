use Rattle.std.proofs.Common.{◌≡◌, ◌∷◌, true, length}
use Rattle.std.specs.Prelude.{◌↔◌}
use Rattle.sqlite_trees.specs.Tree.{IsAscending}
use Rattle.kt_tuple.specs.Node.{is_before}
use Rattle.kt_store.specs.declared.rows.NodeRow.{NodeRow}
use Rattle.kt_sql_tables.proofs.old.are_in_order.Given as goal

abbrev pub invariant-loop-next : goal.invariant-loop-next
invariant-loop-next l =
    IsAscending (λ (a b : NodeRow). is_before a.node b.node ≡ true) l.nodes
    ↔ IsAscending (λ (a b : NodeRow). is_before a.node b.node ≡ true) (l.last ∷ l.rest)

abbrev pub decreases-loop-next : goal.decreases-loop-next
decreases-loop-next l = length l.rest
