use Rattle.kt_refinement.proofs.Whole.{steady-reached}
use Rattle.kt_refinement.proofs.laws.nothing_remembered_is_lost_in_steady_states.Goals as goal

pub returns : goal.returns
returns c = record { survive = λ s is steady. (steady-reached s is steady).all_survive }
