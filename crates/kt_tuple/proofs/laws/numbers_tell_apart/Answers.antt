use Rattle.kt_tuple.proofs.Nodes.{node_index-injective}
use Rattle.kt_tuple.proofs.Signatures.{signature_of-injective}
use Rattle.kt_tuple.proofs.laws.numbers_tell_apart.Goals as goal

pub returns : goal.returns
returns c = record { nodes = node_index-injective; kinds = signature_of-injective }
