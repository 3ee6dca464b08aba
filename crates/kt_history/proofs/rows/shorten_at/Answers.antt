use Rattle.std.proofs.Common.{take, arith}
use Rattle.kt_history.proofs.RowSteps.{rows_of-set}
use Rattle.kt_history.proofs.rows.shorten_at.Goals as goal

pub returns : goal.returns
returns c =
    rows_of-set c.args.rows.now.items c.args.place c.index_mut.result.now c.truncate.new.self (take c.args.keep)
    (omega (arith, c.args.rows.now.ok.0, c.requires)) c.index_mut.ensures.value c.truncate.ensures.items
