use Rattle.std.proofs.Common.{◌∙◌}
use Rattle.kt_store.specs.Changes.{restart_begun}
use Rattle.kt_sql_tables.specs.Held.{content_of}
use Rattle.kt_sql_tables.specs.Cells.{cells_node}
use Rattle.kt_tuple.proofs.Shared.{on_ok}
use Rattle.kt_sql.proofs.CallLemmas.{restarts}
use Rattle.kt_sql.proofs.StopLemmas.{Read, both_read, read_left}
use Rattle.kt_sql.proofs.calls.SqlStoreCkptStore.begin_restart.Goals as goal

pub returns-clause-written : goal.returns-clause-written
returns-clause-written g c sure =
    let before = c.put_both.ensures.honest sure in
    let first = c.in_ok-cells_of.ensures.honest before in
    on_ok c.put_both.result
    (λ e. e ∙ restarts (content_of g.S.Store c.args.self.now.tables) (content_of g.S.Store c.last_instance.new.self.tables)
    (content_of g.S.Store c.cells_of.new.self.tables) c.args.node (cells_node c.in_ok-cells_of.field-0) (cells_node c.in-Some.cells) c.in_ok-last.last
    (c.in_ok-cells_of.ensures.value before) (c.in-Some.ensures.value (c.in_ok-cells_of.ensures.said before)) (c.in_ok-cells_of.ensures.same before)
    (c.in_ok-last.ensures.same first) (c.in_ok-last.ensures.value first))
    (c.put_both.ensures.written sure)

pub returns-clause-stop : goal.returns-clause-stop
returns-clause-stop g c =
    let s = c.args.self.now.tables in
    let one = c.last_instance.new.self.tables in
    let two = c.cells_of.new.self.tables in
    let first : Read g.S.Store s one = record { answers = c.in_ok-last.ensures.answers; same = c.in_ok-last.ensures.same } in
    let next : Read g.S.Store one two = record { answers = c.in_ok-cells_of.ensures.answers; same = c.in_ok-cells_of.ensures.same } in
    read_left g.S.Store s two c.put_both.new.self.tables (restart_begun c.args.node (content_of g.S.Store s)) _
    (both_read g.S.Store s one two first next c.in_ok-cells_of.ensures.honest) c.put_both.ensures.clean
    (λ before.
    let early = c.in_ok-cells_of.ensures.honest before in
    restarts (content_of g.S.Store s) (content_of g.S.Store one) (content_of g.S.Store two) c.args.node (cells_node c.in_ok-cells_of.field-0)
    (cells_node c.in-Some.cells) c.in_ok-last.last (c.in_ok-cells_of.ensures.value before) (c.in-Some.ensures.value (c.in_ok-cells_of.ensures.said before))
    (c.in_ok-cells_of.ensures.same before) (c.in_ok-last.ensures.same early) (c.in_ok-last.ensures.value early))
    c.put_both.ensures.stop
