use Rattle.kt_vote.proofs.Before.{not_itself, transitive, total}
use Rattle.kt_vote.proofs.laws.nodes_are_in_one_order.Goals as goal

pub returns : goal.returns
returns c = record { not_itself = not_itself; transitive = transitive; total = total }
