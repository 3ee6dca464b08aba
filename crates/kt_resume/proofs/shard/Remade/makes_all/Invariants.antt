use Rattle.std.proofs.Common.{◌≡◌, take}
use Rattle.kt_tuple.specs.declared.node.NodeId.TheVariants as ids
use Rattle.kt_history.specs.Closed.{acts_at}
use Rattle.kt_history.specs.Log.{log}
use Rattle.kt_logs.specs.ShardLog.{ShardLog, new_shard, shard_of_acts}
use Rattle.kt_resume.specs.Remade.{IsRemade}
use Rattle.kt_resume.proofs.shard.Remade.makes_all.Given as goal

-- the shard made the acts that were looked at
abbrev pub invariant-loop-number : goal.invariant-loop-number
invariant-loop-number l = record {
  legal : ShardLog l.shards l.name new_shard (acts_at l.history.notes (take l.number-index (log l.history.notes (ids.Shard l.name))));
  like : IsRemade (shard_of_acts new_shard (acts_at l.history.notes (take l.number-index (log l.history.notes (ids.Shard l.name))))) l.self;
}
