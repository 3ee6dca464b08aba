use Rattle.kt_refinement.proofs.Leaving.{leaves-fitting}
use Rattle.kt_refinement.proofs.laws.what_a_world_leaves_can_be_resumed.Goals as goal

pub returns : goal.returns
returns c = record { fits = leaves-fitting }
