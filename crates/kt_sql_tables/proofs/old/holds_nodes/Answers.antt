use Rattle.std.proofs.Common.{◌≡◌, List, map, subst}
use Rattle.std.proofs.lemmas.Bool.{false≢true}
use Rattle.std.specs.Prelude.{◌↔◌, IsTrue}
use Rattle.std.specs.List.{AllByRecursion}
use Rattle.sqlite.specs.Held.{state}
use Rattle.sqlite.specs.Order.{Row}
use Rattle.kt_sql_tables.specs.Old.{IsOldRow, old_given}
use Rattle.kt_sql_tables.specs.auxiliary.Text.{all_nodes_text}
use Rattle.kt_sql_tables.proofs.OldLemmas.{old_table, these_held, these_untold}
use Rattle.kt_sql_tables.proofs.Texts.{all_nodes_is, node_names}
use Rattle.kt_sql_tables.proofs.old.holds_nodes.Goals as goal

pub ask-requires : goal.ask-requires
ask-requires g c = all_nodes_is.plain

pub returns-then-not-branch-clause-value : goal.returns-then-not-branch-clause-value
returns-then-not-branch-clause-value g c clean has =
    let xs = c.args.nodes.now in
    let told = c.in_ok-are_old_rows.field-0 in
    let old = state g.S.Store c.args.conn.now in
    let these = subst (λ (rows : List Row). IsTrue told ↔ (AllByRecursion IsOldRow xs × (rows ≡ map old_given xs))) c.deref.ensures.value
    c.in_ok-are_old_rows.ensures in (
      λ bad. absurd (false≢true bad),
      λ held. absurd (these_untold old_table all_nodes_text node_names all_nodes_is old (state g.S.Store c.ask.new.conn) has
          c.in_ok-rows.rows.items (c.in_ok-rows.ensures.shown clean) xs told c.if-not-branch.true these held),
    )

pub returns-clause-value : goal.returns-clause-value
returns-clause-value g c clean has =
    let xs = c.args.nodes.now in
    let told = c.in_ok-are_old_rows.field-0 in
    let old = state g.S.Store c.args.conn.now in
    let these = subst (λ (rows : List Row). IsTrue told ↔ (AllByRecursion IsOldRow xs × (rows ≡ map old_given xs))) c.deref.ensures.value
    c.in_ok-are_old_rows.ensures in
    these_held old_table all_nodes_text node_names all_nodes_is old (state g.S.Store c.ask.new.conn) has c.in_ok-rows.rows.items
    (c.in_ok-rows.ensures.shown clean) xs told c.are_in_order.result c.if-not-branch.false these c.are_in_order.ensures

pub returns-clause-these : goal.returns-clause-these
returns-clause-these g c is = record { said = (c.in_ok-are_old_rows.ensures.0 c.if-not-branch.false).0; rise = c.are_in_order.ensures.0 is }
