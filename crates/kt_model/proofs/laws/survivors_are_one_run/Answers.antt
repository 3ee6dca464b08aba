use Rattle.kt_model.proofs.Lasting.{one_run-reached}
use Rattle.kt_model.proofs.laws.survivors_are_one_run.Goals as goal

pub returns : goal.returns
returns c = record { one_run = one_run-reached }
