-- Of `Tables::rows_of` in src/reads.rt.
use Rattle.std.proofs.Common.{[], ◌∷◌, None, Option, IfOk, refl, sym, subst}
use Rattle.std.specs.List.{find}
use Rattle.sqlite.specs.Held.{state}
use Rattle.sqlite.specs.State.{Shown}
use Rattle.kt_tuple.specs.Node.{node_eq}
use Rattle.kt_store.specs.declared.rows.NodeRow.{NodeRow}
use Rattle.kt_sql_tables.specs.auxiliary.Showing.{AreRowsOf}
use Rattle.kt_sql_tables.specs.auxiliary.Text.{get_node_text}
use Rattle.kt_sql_tables.specs.Rows.{whole, id_of}
use Rattle.kt_sql_tables.specs.Held.{content_of}
use Rattle.kt_sql_tables.proofs.Texts.{get_node_is}
use Rattle.kt_sql_tables.proofs.AnswerLemmas.{node_read, no_node_read, through_ok, where_ok}
use Rattle.kt_sql_tables.proofs.held.Tables.rows_of.Goals as goal

pub ask-requires : goal.ask-requires
ask-requires g c = get_node_is.plain

pub returns-in_default-clause-rows : goal.returns-in_default-clause-rows
returns-in_default-clause-rows g c sure =
    let none = no_node_read g.S.Store c.args.self.now (c.allocator-alloc.ensures.kept sure) c.args.node c.in_default.ensures in
    subst (λ o. AreRowsOf o c.new.result.items) (sym none) (subst (AreRowsOf None) (sym c.new.ensures.items) (refl, tt))

pub returns-clause-rows : goal.returns-clause-rows
returns-clause-rows g c sure =
    let shown : IfOk c.ask.result (λ rows. Shown get_node_text (whole (id_of c.args.node) ∷ []) (state g.S.Store c.args.self.now.conn)
    (state g.S.Store c.ask.new.self.conn) rows.items) =
    rw (c.params-to_sql.ensures, c.in-Some.ensures.1) at (c.ask.ensures.shown sure) in
    through_ok c.ask.result _
    (λ rows. AreRowsOf (find (λ (r : NodeRow). node_eq r.node c.args.node) (content_of g.S.Store c.args.self.now).nodes) rows.items)
    (λ rows h. node_read g.S.Store c.args.self.now c.ask.new.self (c.ask.ensures.kept sure)
    (c.ask.ensures.same sure) c.args.node rows.items c.in-Some.ensures.0 h) shown

pub returns-in_default-clause-said : goal.returns-in_default-clause-said
returns-in_default-clause-said g c sound = (None, subst (AreRowsOf None) (sym c.new.ensures.items) (refl, tt))

pub returns-clause-said : goal.returns-clause-said
returns-clause-said g c sound =
    where_ok c.ask.result _ (λ rows. (o : Option NodeRow) × AreRowsOf o rows.items) (c.ask.ensures.sure sound) (λ sure.
    through_ok c.ask.result _ _
    (λ rows h. (find (λ (r : NodeRow). node_eq r.node c.args.node) (content_of g.S.Store c.args.self.now).nodes, h)) (returns-clause-rows g c sure))
