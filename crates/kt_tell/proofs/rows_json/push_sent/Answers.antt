use Rattle.std.proofs.Common.{arith}
use Rattle.kt_tell.proofs.Arrays.{array_closed}
use Rattle.kt_tell.proofs.rows_json.push_sent.Goals as goal

pub returns : goal.returns
returns c =
    array_closed c.args.out.now c.begin_array.new.self c.loop-to.out c.end_array.new.self c.args.sent.now c.loop-to.to-index (omega arith)
    c.in_ok-begin_array.ensures c.loop-to.invariant c.in_ok-end_array.ensures
