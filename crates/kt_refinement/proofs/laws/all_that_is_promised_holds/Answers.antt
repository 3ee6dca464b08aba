use Rattle.kt_refinement.proofs.Whole.{headline-reached}
use Rattle.kt_refinement.proofs.laws.all_that_is_promised_holds.Goals as goal

pub returns : goal.returns
returns c = record { headline = headline-reached }
