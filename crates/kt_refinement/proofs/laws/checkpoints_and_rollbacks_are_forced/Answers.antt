use Rattle.kt_refinement.proofs.Lasting.{forced-reached}
use Rattle.kt_refinement.proofs.laws.checkpoints_and_rollbacks_are_forced.Goals as goal

pub returns : goal.returns
returns c = record { forced = forced-reached }
