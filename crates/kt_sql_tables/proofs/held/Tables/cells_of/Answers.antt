-- Of `Tables::cells_of` in src/reads.rt.
use Rattle.std.proofs.Common.{slice_get, ap, ◌∙◌}
use Rattle.std.specs.List.{find}
use Rattle.kt_tuple.specs.Node.{node_eq}
use Rattle.kt_store.specs.declared.rows.NodeRow.{NodeRow}
use Rattle.kt_sql_tables.specs.Cells.{AreSaid}
use Rattle.kt_sql_tables.specs.Held.{content_of, is_sound}
use Rattle.kt_sql_tables.proofs.AnswerLemmas.{each_on, read_reason, through_ok}
use Rattle.kt_sql_tables.proofs.CellLemmas.{gives_row}
use Rattle.kt_sql_tables.proofs.held.Tables.cells_of.Goals as goal

pub returns-clause-said : goal.returns-clause-said
returns-clause-said g c sure =
    let found = c.in_ok-rows.ensures.rows sure in
    let o = find (λ (r : NodeRow). node_eq r.node c.args.node) (content_of g.S.Store c.args.self.now).nodes in
    let first = c.first_cells_of.ensures.exact o found.1 (ap (λ rows. slice_get rows 0) c.deref.ensures.value ∙ found.0) in
    let it = gives_row c.args.node c.in-Some.id o c.first_cells_of.result c.in-Some.ensures.0 c.in-Some.ensures.1 found.1 first in
    through_ok c.first_cells_of.result _ AreSaid (λ _ h. h.0) it.0

pub returns-clause-value : goal.returns-clause-value
returns-clause-value g c sure =
    let found = c.in_ok-rows.ensures.rows sure in
    let o = find (λ (r : NodeRow). node_eq r.node c.args.node) (content_of g.S.Store c.args.self.now).nodes in
    let first = c.first_cells_of.ensures.exact o found.1 (ap (λ rows. slice_get rows 0) c.deref.ensures.value ∙ found.0) in
    let it = gives_row c.args.node c.in-Some.id o c.first_cells_of.result c.in-Some.ensures.0 c.in-Some.ensures.1 found.1 first in
    through_ok c.first_cells_of.result _ _ (λ _ h. h.1) it.0

pub returns-clause-reason : goal.returns-clause-reason
returns-clause-reason g c =
    read_reason (is_sound g.S.Store c.rows_of.new.self) c.first_cells_of.result c.first_cells_of.ensures.named (λ sound.
    let found = c.in_ok-rows.ensures.said sound in
    let o = found.0 in
    let shown = found.1 in
    let first = c.first_cells_of.ensures.exact o shown.1 (ap (λ rows. slice_get rows 0) c.deref.ensures.value ∙ shown.0) in
    (gives_row c.args.node c.in-Some.id o c.first_cells_of.result c.in-Some.ensures.0 c.in-Some.ensures.1 shown.1 first).1)

pub returns-clause-answers : goal.returns-clause-answers
returns-clause-answers g c clean = let it = c.in_ok-rows.ensures.answers clean in (it.0, λ sure. each_on c.first_cells_of.result _ (it.1 sure))
