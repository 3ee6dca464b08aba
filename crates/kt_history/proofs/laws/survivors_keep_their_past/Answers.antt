use Rattle.kt_history.proofs.Survivors.{Survives-past}
use Rattle.kt_history.proofs.laws.survivors_keep_their_past.Goals as goal

pub returns : goal.returns
returns c = λ h e f s p. Survives-past h e f s p
