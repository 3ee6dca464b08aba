use Rattle.kt_refinement.proofs.Whole.{steady-reached}
use Rattle.kt_refinement.proofs.laws.steady_shards_hold_the_survivors_tuples.Goals as goal

pub returns : goal.returns
returns c = record { steady = steady-reached }
