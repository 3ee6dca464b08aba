use Rattle.std.proofs.Common.{◌≡◌, take}
use Rattle.std.specs.Prelude.{filter}
use Rattle.kt_vote.specs.Poll.{is_awaited}
use Rattle.kt_cells.proofs.ballot_cells.awaited_of.Given as goal

abbrev pub invariant-loop-node : goal.invariant-loop-node
invariant-loop-node l = l.awaited.items ≡ filter (is_awaited l.ballot) (take l.node-index l.nodes)
