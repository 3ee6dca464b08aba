use Rattle.std.proofs.Common.{◌≡◌, false, take}
use Rattle.std.specs.List.{list_any}
use Rattle.kt_core.specs.Lent.{kept}
use Rattle.kt_stage.specs.Traffic.{is_kept_of}
use Rattle.kt_stage.proofs.traffic.is_kept.Given as goal

-- nothing was found so far
abbrev pub invariant-loop-index : goal.invariant-loop-index
invariant-loop-index g l = list_any (is_kept_of l.from l.number) (take l.index (kept l.world.state l.node)) ≡ false
