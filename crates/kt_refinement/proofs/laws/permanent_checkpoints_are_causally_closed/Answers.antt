use Rattle.kt_refinement.proofs.Whole.{closed-reached}
use Rattle.kt_refinement.proofs.laws.permanent_checkpoints_are_causally_closed.Goals as goal

pub returns : goal.returns
returns c = record { closed = closed-reached }
