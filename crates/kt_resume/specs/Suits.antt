-- When a checkpoint's part is one that a node like its acts has.
-- Cited by Fits, Suited, suits.rt, `suits::suits_shard`.
use Rattle.std.specs.Prelude.{◌≡◌, List}
use Rattle.kt_script.specs.declared.command.Command.{Command}
use Rattle.kt_worker.specs.WorkerModel.{WorkerModel}
use Rattle.kt_shard.specs.Shard.{Shard}
use Rattle.kt_ckpt.specs.Fields.{WorkerFields, ShardFields}
use Rattle.kt_logs.specs.ShardLog.{MadeShard}
use Rattle.kt_logs.specs.WorkerLog.{MadeWorker}
use Rattle.kt_state.specs.State.{worker_fields, shard_fields}
use Rattle.kt_model.specs.Like.{IsWorkerLike, IsShardLike}

-- a worker of this script that is like what its acts make of it has these fields
abbrev pub SuitsWorker : List Command → MadeWorker → WorkerFields → Type 0
SuitsWorker script made stored = (x : WorkerModel) × (stored ≡ worker_fields x) × IsWorkerLike script made x

-- a shard that is like what its acts make of it has these fields
abbrev pub SuitsShard : List (List Command) → MadeShard → ShardFields → Type 0
SuitsShard scripts made stored = (y : Shard) × (stored ≡ shard_fields y) × IsShardLike scripts made y
