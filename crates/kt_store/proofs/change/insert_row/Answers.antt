use Rattle.std.proofs.Common.{rules, ◌≡◌, None, Some, ◌∙◌}
use Rattle.std.specs.List.{position}
use Rattle.kt_store.specs.declared.rows.NodeRow.{NodeRow}
use Rattle.kt_tuple.specs.Node.{is_before}
use Rattle.kt_store.proofs.Nodes.{added_among, added_last}
use Rattle.kt_store.proofs.change.insert_row.Goals as goal

pub returns-in_ok-insert-in-Some-clause-written : goal.returns-in_ok-insert-in-Some-clause-written
returns-in_ok-insert-in-Some-clause-written c =
    let at : position (λ (row : NodeRow). is_before c.args.new.node row.node) c.args.rows.now.items ≡ Some c.in-Some.place = search rules in
    c.in_ok-insert-in-Some.ensures.items ∙ added_among c.args.new c.args.rows.now.items c.in-Some.place c.requires.rising c.requires.none at

pub returns-in_ok-push-in-None-clause-written : goal.returns-in_ok-push-in-None-clause-written
returns-in_ok-push-in-None-clause-written c =
    let at : position (λ (row : NodeRow). is_before c.args.new.node row.node) c.args.rows.now.items ≡ None = search rules in
    c.in_ok-push-in-None.ensures.items ∙ added_last c.args.new c.args.rows.now.items c.requires.none at
