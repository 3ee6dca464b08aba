-- When each node's log is one that the node may make.
-- Cited by Follows, Growth, Merge, OneRun, Renamed, Survive; other crates.
use Rattle.std.specs.Prelude.{List}
use Rattle.kt_tuple.specs.declared.node.NodeId.{NodeId}
use Rattle.kt_tuple.specs.declared.node.NodeId.TheVariants as nodes
use Rattle.kt_history.specs.declared.note.Act.{Act}
use Rattle.kt_history.specs.declared.note.Note.{Note}
use Rattle.kt_history.specs.Closed.{acts_in_log}
use Rattle.kt_logs.specs.Order.{Setting}
use Rattle.kt_logs.specs.ShardLog.{ShardLog, new_shard}
use Rattle.kt_logs.specs.WorkerLog.{WorkerLog, new_worker}

-- the node may make these acts, one after the other, from its first state
abbrev pub IsLog : Setting → NodeId → List Act → Type 0
IsLog setting (nodes.Worker w) acts = WorkerLog (setting.asks w) w new_worker acts
IsLog setting (nodes.Shard s) acts = ShardLog setting.shards s new_shard acts

-- what each node remembers is a log that it may make
abbrev pub AreLegal : Setting → List Note → Type 0
AreLegal setting h = (p : NodeId) → IsLog setting p (acts_in_log h p)
