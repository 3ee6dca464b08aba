use Rattle.kt_model.proofs.Lasting.{whole-reached}
use Rattle.kt_model.proofs.laws.without_a_cut_nothing_is_lost.Goals as goal

pub returns : goal.returns
returns c = record { whole = whole-reached }
