use Rattle.std.proofs.Common.{◌≡◌, take, map}
use Rattle.kt_state.specs.Asking.{roll_ask}
use Rattle.kt_state.specs.Asking.{sent_view}
use Rattle.kt_state.proofs.asking.roll_asks.Given as goal

abbrev pub invariant-loop-node : goal.invariant-loop-node
invariant-loop-node l = l.send ≡ map (roll_ask l.instance l.incarnation (sent_view l.sent)) (take l.node-index l.asked)
