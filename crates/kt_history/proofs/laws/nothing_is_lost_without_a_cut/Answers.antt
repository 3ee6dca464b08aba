use Rattle.kt_history.proofs.Sense.{CausesComeFirst-from_well_formed, Survives-no_cut}
use Rattle.kt_history.proofs.laws.nothing_is_lost_without_a_cut.Goals as goal

pub returns : goal.returns
returns c = λ h w none n a. Survives-no_cut h (CausesComeFirst-from_well_formed h w) none n a
