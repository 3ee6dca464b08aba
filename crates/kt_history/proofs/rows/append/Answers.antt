use Rattle.std.proofs.Common.{◌∷◌, ◌++◌, [], arith}
use Rattle.kt_history.proofs.RowSteps.{rows_of-set}
use Rattle.kt_history.proofs.rows.append.Goals as goal

pub returns : goal.returns
returns c =
    rows_of-set c.args.rows.now.items c.args.place c.index_mut.result.now c.push_reserved.new.self (λ row. row ++ c.args.number ∷ [])
    (omega (arith, c.args.rows.now.ok.0, c.requires.0)) c.index_mut.ensures.value c.push_reserved.ensures.items
