use Rattle.std.proofs.Common.{◌≡◌, ◌+◌, length, map, take}
use Rattle.kt_stage.specs.Journal.{empty_seat}
use Rattle.kt_stage.proofs.stage.seats_of.Given as goal

-- a part is left for each node that is still to come
abbrev pub invariant-loop-node : goal.invariant-loop-node
invariant-loop-node g l =
    (l.seats.items ≡ map empty_seat (take l.node-index l.nodes)) × (l.rest.parts + l.node-index ≡ length l.nodes) × (l.rest.amount ≡ 0)
