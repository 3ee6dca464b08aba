use Rattle.kt_tuple.proofs.Homes.{Matches-signature, Matches-shard}
use Rattle.kt_tuple.proofs.laws.matching_has_one_home.Goals as goal

pub returns : goal.returns
returns c = record { signature = Matches-signature; home = Matches-shard }
