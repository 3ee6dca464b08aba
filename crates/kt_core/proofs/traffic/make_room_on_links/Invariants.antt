use Rattle.std.proofs.Common.{◌≤◌, length, take}
use Rattle.std.specs.List.{AllByRecursion}
use Rattle.kt_link.specs.Network.{room}
use Rattle.kt_core.specs.auxiliary.Traffic.{IsSameTraffic}
use Rattle.kt_core.proofs.traffic.make_room_on_links.Given as goal

-- nothing changed on the links, and there is room for the messages so far
abbrev pub invariant-loop-to : goal.invariant-loop-to
invariant-loop-to l = IsSameTraffic l.fn.links l.links × AllByRecursion (λ m. length l.send ≤ room l.links l.owner m.0) (take l.to-index l.send)
