use Rattle.kt_shard.proofs.Written.{parts-same}
use Rattle.kt_shard.proofs.laws.a_shard_is_its_parts.Goals as goal

pub returns : goal.returns
returns c = parts-same
