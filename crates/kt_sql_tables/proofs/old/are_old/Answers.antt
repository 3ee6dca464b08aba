use Rattle.std.proofs.Common.{◌≡◌, ◌∙◌, List, ap, subst, rules}
use Rattle.std.proofs.lemmas.Bool.{false≢true}
use Rattle.std.specs.Prelude.{◌↔◌, IsTrue}
use Rattle.sqlite.specs.Held.{state}
use Rattle.sqlite.specs.Effect.{Database}
use Rattle.sqlite.specs.State.{HasCleanDisk}
use Rattle.kt_store.specs.declared.rows.NodeRow.{NodeRow}
use Rattle.kt_store.specs.declared.rows.InstanceRow.{InstanceRow}
use Rattle.kt_sql_tables.specs.declared.opened.Kind.TheVariants.{Old}
use Rattle.kt_sql_tables.specs.Old.{HoldsOldNodes}
use Rattle.kt_sql_tables.specs.auxiliary.OldRows.{AreOldRows}
use Rattle.kt_sql_tables.specs.Opened.{old_version}
use Rattle.kt_sql_tables.specs.Rows.{HoldsBoard}
use Rattle.kt_sql_tables.proofs.AnswerLemmas.{each_ok, through_ok, where_ok}
use Rattle.kt_sql_tables.proofs.StateLemmas.{look_clean, look_open}
use Rattle.kt_sql_tables.proofs.OldLemmas.{found, old_told, old_untold}
use Rattle.kt_sql_tables.proofs.old.are_old.Goals as goal

pub returns-then-not-branch-clause-value : goal.returns-then-not-branch-clause-value
returns-then-not-branch-clause-value g c clean settled =
    let old = state g.S.Store c.args.conn.now in
    let mid = state g.S.Store c.kind_of.new.conn in
    let is : c.in_ok-kind_of.field-0 ≡ Old = search rules in
    let one = state g.S.Store c.holds_nodes.new.conn in
    let clean-1 : HasCleanDisk mid = look_clean mid one c.holds_nodes.ensures.looks clean in
    let f = found old_version old mid c.kind_of.ensures.looks clean-1 (c.in_ok-kind_of.ensures.is_open clean-1) settled
    ((c.in_ok-kind_of.ensures.old clean-1).0 is) in
    let is-1 = c.in_ok-holds_nodes.ensures.value clean f.is.schema in (
      λ bad. absurd (false≢true bad),
      λ held. absurd (old_untold old mid one c.args.store.now.content f c.in_ok-holds_nodes.field-0 c.if-not-branch.true
          (subst (λ (ns : List NodeRow). IsTrue c.in_ok-holds_nodes.field-0 ↔ HoldsOldNodes (mid.now.trees 0) ns) c.rows.ensures is-1) held),
    )

pub returns-clause-value : goal.returns-clause-value
returns-clause-value g c clean settled =
    let old = state g.S.Store c.args.conn.now in
    let mid = state g.S.Store c.kind_of.new.conn in
    let is : c.in_ok-kind_of.field-0 ≡ Old = search rules in
    let one = state g.S.Store c.holds_nodes.new.conn in
    let two = state g.S.Store c.holds_board.new.conn in
    let clean-2 : HasCleanDisk one = look_clean one two c.holds_board.ensures.looks clean in
    let clean-1 : HasCleanDisk mid = look_clean mid one c.holds_nodes.ensures.looks clean-2 in
    let f = found old_version old mid c.kind_of.ensures.looks clean-1 (c.in_ok-kind_of.ensures.is_open clean-1) settled
    ((c.in_ok-kind_of.ensures.old clean-1).0 is) in
    let stays = c.holds_nodes.ensures.looks.stays clean-2 (c.in_ok-holds_nodes.ensures.is_open clean-2) in
    let next = stays.rest f.settled f.is.schema in
    let has = ap (λ (d : Database). d.schema) next.0 ∙ f.is.schema in
    let nodes = subst (λ (ns : List NodeRow). HoldsOldNodes (mid.now.trees 0) ns) c.rows.ensures
    ((c.in_ok-holds_nodes.ensures.value clean-2 f.is.schema).0 c.if-not-branch.false) in
    through_ok c.holds_board.result _ _
    (λ told is-2. old_told old mid one c.args.store.now.content f next.0 nodes told
    (subst (λ (ps : List InstanceRow). IsTrue told ↔ HoldsBoard (one.now.trees 1) ps) c.board.ensures is-2))
    (c.holds_board.ensures.value clean has)

pub returns-clause-these : goal.returns-clause-these
returns-clause-these g c =
    let olds = subst AreOldRows c.rows.ensures (c.in_ok-holds_nodes.ensures.these c.if-not-branch.false) in
    each_ok c.holds_board.result _ (λ told is. olds)

pub returns-clause-is_open : goal.returns-clause-is_open
returns-clause-is_open g c clean =
    where_ok c.holds_board.result (IsTrue (state g.S.Store c.holds_board.new.conn).is_open) _ (c.holds_board.ensures.is_open clean)
    (λ on. each_ok c.holds_board.result _ (λ told is. on))

pub returns-then-not-branch-clause-same : goal.returns-then-not-branch-clause-same
returns-then-not-branch-clause-same g c clean on settled =
    let old = state g.S.Store c.args.conn.now in
    let mid = state g.S.Store c.kind_of.new.conn in
    let is : c.in_ok-kind_of.field-0 ≡ Old = search rules in
    let one = state g.S.Store c.holds_nodes.new.conn in
    let clean-1 : HasCleanDisk mid = look_clean mid one c.holds_nodes.ensures.looks clean in
    let f = found old_version old mid c.kind_of.ensures.looks clean-1 (c.in_ok-kind_of.ensures.is_open clean-1) (λ _. settled)
    ((c.in_ok-kind_of.ensures.old clean-1).0 is) in
    let it = (c.holds_nodes.ensures.looks.stays clean on).rest f.settled f.is.schema in
    (it.0 ∙ f.same, it.1)

pub returns-then-not-branch-clause-leaves : goal.returns-then-not-branch-clause-leaves
returns-then-not-branch-clause-leaves g c clean settled db may =
    let old = state g.S.Store c.args.conn.now in
    let mid = state g.S.Store c.kind_of.new.conn in
    let is : c.in_ok-kind_of.field-0 ≡ Old = search rules in
    let one = state g.S.Store c.holds_nodes.new.conn in
    let clean-1 : HasCleanDisk mid = look_clean mid one c.holds_nodes.ensures.looks clean in
    let f = found old_version old mid c.kind_of.ensures.looks clean-1 (c.in_ok-kind_of.ensures.is_open clean-1) settled
    ((c.in_ok-kind_of.ensures.old clean-1).0 is) in
    c.kind_of.ensures.leaves clean-1 db (c.holds_nodes.ensures.looks.leaves clean f.is.schema db may)

pub returns-in_err-holds_nodes-clause-same : goal.returns-in_err-holds_nodes-clause-same
returns-in_err-holds_nodes-clause-same g c clean on settled =
    let old = state g.S.Store c.args.conn.now in
    let mid = state g.S.Store c.kind_of.new.conn in
    let is : c.in_ok-kind_of.field-0 ≡ Old = search rules in
    let one = state g.S.Store c.holds_nodes.new.conn in
    let clean-1 : HasCleanDisk mid = look_clean mid one c.holds_nodes.ensures.looks clean in
    let f = found old_version old mid c.kind_of.ensures.looks clean-1 (c.in_ok-kind_of.ensures.is_open clean-1) (λ _. settled)
    ((c.in_ok-kind_of.ensures.old clean-1).0 is) in
    let it = (c.holds_nodes.ensures.looks.stays clean on).rest f.settled f.is.schema in
    (it.0 ∙ f.same, it.1)

pub returns-in_err-holds_nodes-clause-leaves : goal.returns-in_err-holds_nodes-clause-leaves
returns-in_err-holds_nodes-clause-leaves g c clean settled db may =
    let old = state g.S.Store c.args.conn.now in
    let mid = state g.S.Store c.kind_of.new.conn in
    let is : c.in_ok-kind_of.field-0 ≡ Old = search rules in
    let one = state g.S.Store c.holds_nodes.new.conn in
    let clean-1 : HasCleanDisk mid = look_clean mid one c.holds_nodes.ensures.looks clean in
    let f = found old_version old mid c.kind_of.ensures.looks clean-1 (c.in_ok-kind_of.ensures.is_open clean-1) settled
    ((c.in_ok-kind_of.ensures.old clean-1).0 is) in
    c.kind_of.ensures.leaves clean-1 db (c.holds_nodes.ensures.looks.leaves clean f.is.schema db may)

pub returns-clause-same : goal.returns-clause-same
returns-clause-same g c clean on settled =
    let old = state g.S.Store c.args.conn.now in
    let mid = state g.S.Store c.kind_of.new.conn in
    let is : c.in_ok-kind_of.field-0 ≡ Old = search rules in
    let one = state g.S.Store c.holds_nodes.new.conn in
    let two = state g.S.Store c.holds_board.new.conn in
    let clean-2 : HasCleanDisk one = look_clean one two c.holds_board.ensures.looks clean in
    let clean-1 : HasCleanDisk mid = look_clean mid one c.holds_nodes.ensures.looks clean-2 in
    let f = found old_version old mid c.kind_of.ensures.looks clean-1 (c.in_ok-kind_of.ensures.is_open clean-1) (λ _. settled)
    ((c.in_ok-kind_of.ensures.old clean-1).0 is) in
    let on-2 = look_open one two c.holds_board.ensures.looks clean on in
    let next = (c.holds_nodes.ensures.looks.stays clean-2 on-2).rest f.settled f.is.schema in
    let has = ap (λ (d : Database). d.schema) next.0 ∙ f.is.schema in
    let it = (c.holds_board.ensures.looks.stays clean on).rest next.1 has in
    (it.0 ∙ next.0 ∙ f.same, it.1)

pub returns-clause-leaves : goal.returns-clause-leaves
returns-clause-leaves g c clean settled db may =
    let old = state g.S.Store c.args.conn.now in
    let mid = state g.S.Store c.kind_of.new.conn in
    let is : c.in_ok-kind_of.field-0 ≡ Old = search rules in
    let one = state g.S.Store c.holds_nodes.new.conn in
    let two = state g.S.Store c.holds_board.new.conn in
    let clean-2 : HasCleanDisk one = look_clean one two c.holds_board.ensures.looks clean in
    let clean-1 : HasCleanDisk mid = look_clean mid one c.holds_nodes.ensures.looks clean-2 in
    let f = found old_version old mid c.kind_of.ensures.looks clean-1 (c.in_ok-kind_of.ensures.is_open clean-1) settled
    ((c.in_ok-kind_of.ensures.old clean-1).0 is) in
    let next = (c.holds_nodes.ensures.looks.stays clean-2 (c.in_ok-holds_nodes.ensures.is_open clean-2)).rest f.settled f.is.schema in
    let has = ap (λ (d : Database). d.schema) next.0 ∙ f.is.schema in
    c.kind_of.ensures.leaves clean-1 db
    (c.holds_nodes.ensures.looks.leaves clean-2 f.is.schema db (c.holds_board.ensures.looks.leaves clean has db may))
