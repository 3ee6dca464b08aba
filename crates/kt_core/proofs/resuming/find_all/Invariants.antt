use Rattle.std.proofs.Common.{◌≡◌, map, take}
use Rattle.std.specs.Prelude.{IsTrue}
use Rattle.kt_core.specs.auxiliary.Gathering.{found_in}
use Rattle.kt_core.proofs.Later.{Follows}
use Rattle.kt_core.proofs.resuming.find_all.Given as goal

-- what was found of the nodes so far, of a store that stays as it was
abbrev pub invariant-loop-node : goal.invariant-loop-node
invariant-loop-node g l =
    Follows g.S.CkptStore l.initial.store l.store
    × (IsTrue (g.S.CkptStore.is_honest l.store) →
    l.found.items ≡ map (found_in (g.S.CkptStore.content l.initial.store)) (take l.node-index l.node-items))
