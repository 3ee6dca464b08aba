use Rattle.std.proofs.Common.{◌≡◌, false, take}
use Rattle.std.specs.List.{list_any}
use Rattle.kt_model.specs.State.{link}
use Rattle.kt_stage.specs.Traffic.{is_sought}
use Rattle.kt_stage.proofs.traffic.is_on_link.Given as goal

-- nothing was found so far
abbrev pub invariant-loop-index : goal.invariant-loop-index
invariant-loop-index g l = list_any (is_sought l.sought) (take l.index (link l.world.state l.from l.to)) ≡ false
