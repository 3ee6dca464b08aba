use Rattle.std.proofs.Common.{◌≡◌, ◌++◌, take}
use Rattle.std.specs.List.{flat_map}
use Rattle.kt_summary.specs.Waits.{wait_at}
use Rattle.kt_summary.proofs.waits.push_waits.Given as goal

abbrev pub invariant-loop-shard : goal.invariant-loop-shard
invariant-loop-shard g l = l.found.items ≡ l.initial.found.items ++ flat_map (wait_at l.world.state l.worker) (take l.shard-index l.shards)
