use Rattle.std.proofs.Common.{◌≡◌, Some, take, map}
use Rattle.kt_space.specs.auxiliary.Grouping.{kinds_key, first_key}
use Rattle.kt_space.specs.auxiliary.Slots.{filled}
use Rattle.kt_space.proofs.index.Index.of.Given as goal

abbrev pub invariant-loop-slot : goal.invariant-loop-slot
invariant-loop-slot l = record {
  kinds : l.index.by_kinds.keys ≡ map (λ u. Some (kinds_key u)) (filled (take l.slot-index l.slots));
  firsts : l.index.by_first.keys ≡ map (λ u. Some (first_key u)) (filled (take l.slot-index l.slots));
}
