use Rattle.kt_history.proofs.Survivors.{survives-decides}
use Rattle.kt_history.proofs.laws.survival_is_decided.Goals as goal

pub returns : goal.returns
returns c = λ h w n. survives-decides h w n
