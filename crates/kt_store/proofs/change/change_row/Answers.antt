use Rattle.std.proofs.Common.{rules, ◌≡◌, ◌<◌, length, List, None, Some, OnOk, sym, ap, refl, ◌∙◌, subst}
use Rattle.std.specs.List.{find, position, slice_get}
use Rattle.std.proofs.lemmas.Option.{slice_get_read}
use Rattle.kt_tuple.specs.Node.{node_eq}
use Rattle.kt_store.specs.declared.rows.NodeRow.{NodeRow}
use Rattle.kt_store.specs.Content.{opening_row, row_or}
use Rattle.kt_store.specs.Changes.{with_row}
use Rattle.kt_store.specs.auxiliary.Row.{changed}
use Rattle.kt_store.proofs.Nodes.{changed_there, nodes_either, same_node, still_nodes}
use Rattle.kt_store.proofs.Tables.{position_found, position_none}
use Rattle.kt_store.proofs.change.change_row.Goals as goal

pub returns-in-Some-clause-written : goal.returns-in-Some-clause-written
returns-in-Some-clause-written c =
    let place : position (λ (row : NodeRow). node_eq row.node c.args.node) c.args.rows.now.items ≡ Some c.in-Some.place = search rules in
    let within : c.in-Some.place < length c.args.rows.now.items = search rules in
    let at : slice_get c.args.rows.now.items c.in-Some.place ≡ Some c.index_mut.result.now =
    slice_get_read c.args.rows.now.items (length c.args.rows.now.items) c.in-Some.place c.index_mut.result.now refl within c.index_mut.ensures.value in
    let found : find (λ (row : NodeRow). node_eq row.node c.args.node) c.args.rows.now.items ≡ Some c.index_mut.result.now =
    sym (position_found (λ (row : NodeRow). node_eq row.node c.args.node) c.args.rows.now.items c.in-Some.place place) ∙ at in
    rw c.apply.ensures (changed_there c.args.change c.args.node c.args.rows.now.items c.in-Some.place c.index_mut.result.now c.requires.nodes.rising found at)

pub insert_row-requires-clause-none : goal.insert_row-requires-clause-none
insert_row-requires-clause-none c =
    let place : position (λ (row : NodeRow). node_eq row.node c.args.node) c.args.rows.now.items ≡ None = search rules in
    let none : find (λ (row : NodeRow). node_eq row.node c.args.node) c.args.rows.now.items ≡ None =
    position_none (λ (row : NodeRow). node_eq row.node c.args.node) c.args.rows.now.items place in
    let node : c.apply-2.new.row.node ≡ c.args.node = ap (λ (r : NodeRow). r.node) c.apply-2.ensures ∙ same_node c.args.change (opening_row c.args.node) in
    ap (λ n. find (λ (row : NodeRow). node_eq row.node n) c.args.rows.now.items) node ∙ none

pub returns-clause-written : goal.returns-clause-written
returns-clause-written c =
    let place : position (λ (row : NodeRow). node_eq row.node c.args.node) c.args.rows.now.items ≡ None = search rules in
    let none : find (λ (row : NodeRow). node_eq row.node c.args.node) c.args.rows.now.items ≡ None =
    position_none (λ (row : NodeRow). node_eq row.node c.args.node) c.args.rows.now.items place in
    let row : c.apply-2.new.row ≡ changed c.args.change (row_or c.args.node (find (λ (row : NodeRow). node_eq row.node c.args.node) c.args.rows.now.items)) =
    c.apply-2.ensures ∙ ap (λ r. changed c.args.change (row_or c.args.node r)) (sym none) in
    subst (λ r. OnOk c.insert_row.result (c.insert_row.new.rows.items ≡ with_row r c.args.rows.now.items)) row c.insert_row.ensures.written

pub returns-clause-kept : goal.returns-clause-kept
returns-clause-kept c =
    let done : List NodeRow =
    with_row (changed c.args.change (row_or c.args.node (find (λ (row : NodeRow). node_eq row.node c.args.node) c.args.rows.now.items)))
    c.args.rows.now.items in
    nodes_either c.insert_row.result c.insert_row.new.rows.items done c.args.rows.now.items (returns-clause-written c) c.insert_row.ensures.unchanged
    (still_nodes c.args.change c.args.node c.args.rows.now.items c.requires.within c.requires.nodes) c.requires.nodes
