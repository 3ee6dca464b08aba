use Rattle.std.proofs.Common.{◌∙◌, arith}
use Rattle.kt_history.proofs.RowSteps.{row_at-set_same}
use Rattle.kt_history.proofs.rows.reserve_row.Goals as goal

pub returns-clause-same : goal.returns-clause-same
returns-clause-same c = λ i.
    row_at-set_same c.grow.rows.items c.args.place c.index_mut.result.now c.reserve.new.self
    (omega (arith, c.grow.rows.ok.0, c.grow-test.false, c.len.ensures)) c.index_mut.ensures.value c.reserve.ensures.items i
    ∙ c.grow.invariant i
