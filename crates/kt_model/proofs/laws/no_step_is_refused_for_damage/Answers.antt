use Rattle.kt_model.proofs.Lasting.{undamaged-reached}
use Rattle.kt_model.proofs.laws.no_step_is_refused_for_damage.Goals as goal

pub returns : goal.returns
returns c = record { undamaged = undamaged-reached }
