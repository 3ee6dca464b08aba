use Rattle.std.proofs.Common.{rules, ◌≡◌, ◌≤◌, Some, subst}
use Rattle.std.specs.List.{find}
use Rattle.kt_tuple.specs.Node.{node_eq}
use Rattle.kt_store.specs.declared.rows.NodeRow.{NodeRow}
use Rattle.kt_store.specs.Content.{row_or, greatest}
use Rattle.kt_store.proofs.Nodes.{row_within}
use Rattle.kt_store.proofs.contents.Contents.incarnation_of.Goals as goal

pub returns-in-Some-clause-within : goal.returns-in-Some-clause-within
returns-in-Some-clause-within c =
    let found : find (λ (row : NodeRow). node_eq row.node c.args.node) c.self.inside.nodes.items ≡ Some c.in-Some.row.now = search rules in
    subst (λ r. (row_or c.args.node r).incarnation ≤ greatest) found (row_within c.args.node c.self.inside.nodes.items c.self.invariant.0.within)
