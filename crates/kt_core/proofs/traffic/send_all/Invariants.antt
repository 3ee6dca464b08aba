use Rattle.kt_core.proofs.Traffics.{Sending}
use Rattle.kt_core.proofs.traffic.send_all.Given as goal

-- what the iterator has not given yet is still to be sent
abbrev pub invariant-loop-to : goal.invariant-loop-to
invariant-loop-to l = Sending l.fn.links l.links l.owner l.fn.send.items l.to-iterator.rest.items
