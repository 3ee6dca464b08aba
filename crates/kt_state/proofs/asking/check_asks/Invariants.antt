use Rattle.std.proofs.Common.{◌≡◌, take, map}
use Rattle.kt_state.specs.Asking.{check_ask}
use Rattle.kt_state.specs.Codes.{live_view}
use Rattle.kt_state.proofs.asking.check_asks.Given as goal

abbrev pub invariant-loop-node : goal.invariant-loop-node
invariant-loop-node l = l.send ≡ map (check_ask l.instance (live_view l.live)) (take l.node-index l.asked)
