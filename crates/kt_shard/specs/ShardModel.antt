-- The abstract state of a shard.
-- Cited by shard.rt, specs/auxiliary/Sharing.
use Rattle.std.specs.Prelude.{Bool}
use Rattle.kt_shard.specs.Shard.{Shard}

-- the shard as plain data, and whether one more tuple takes no memory
pub record ShardModel : Type 0 where
  pub state : Shard
  pub has_room : Bool
