use Rattle.std.proofs.Common.{◌≡◌, ◌∷◌, true, length}
use Rattle.std.specs.Prelude.{◌↔◌, nat_lt}
use Rattle.sqlite_trees.specs.Tree.{IsAscending}
use Rattle.kt_store.specs.declared.rows.InstanceRow.{InstanceRow}
use Rattle.kt_sql_tables.proofs.old.are_rising.Given as goal

abbrev pub invariant-loop-next : goal.invariant-loop-next
invariant-loop-next l =
    IsAscending (λ (a b : InstanceRow). nat_lt a.instance b.instance ≡ true) l.board
    ↔ IsAscending (λ (a b : InstanceRow). nat_lt a.instance b.instance ≡ true) (l.last ∷ l.rest)

abbrev pub decreases-loop-next : goal.decreases-loop-next
decreases-loop-next l = length l.rest
