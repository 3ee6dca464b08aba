use Rattle.kt_refinement.proofs.Whole.{permanent_run-reached}
use Rattle.kt_refinement.proofs.laws.permanent_tuples_are_those_of_one_run.Goals as goal

pub returns : goal.returns
returns c = record { permanent = permanent_run-reached }
