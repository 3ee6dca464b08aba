use Rattle.kt_history.specs.Survival.{survives}
use Rattle.kt_history.proofs.Survivors.{survives-closed}
use Rattle.kt_history.proofs.Fronts.{marked_front}
use Rattle.kt_history.proofs.laws.survivors_are_fronts.Goals as goal

pub returns-clause-closed : goal.returns-clause-closed
returns-clause-closed c = λ h w. survives-closed h w

pub returns-clause-front : goal.returns-clause-front
returns-clause-front c = λ h w p. (marked_front h (survives h) (survives-closed h w) p).is_front
