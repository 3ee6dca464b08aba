use Rattle.std.proofs.Common.{◌≡◌, ◌+◌, ◌-◌, vec_len}
use Rattle.kt_tuple.specs.declared.node.NodeId.{NodeId}
use Rattle.kt_ckpt.specs.auxiliary.Gathered.{row}
use Rattle.kt_ckpt.proofs.past.put.Given as goal

abbrev pub invariant-grow : goal.invariant-grow
invariant-grow l = (p : NodeId) → row l.gathered.items p ≡ row l.initial.gathered.items p

abbrev pub decreases-grow : goal.decreases-grow
decreases-grow l = l.place + 1 - vec_len l.gathered
