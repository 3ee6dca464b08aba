use Rattle.std.proofs.Common.{◌≡◌, ◌++◌, take}
use Rattle.std.specs.List.{flat_map}
use Rattle.kt_summary.specs.Waits.{waits_of}
use Rattle.kt_summary.proofs.waits.push_all.Given as goal

abbrev pub invariant-loop-worker : goal.invariant-loop-worker
invariant-loop-worker g l = l.found.items ≡ l.initial.found.items ++ flat_map (waits_of l.world.state l.shards) (take l.worker-index l.workers)
