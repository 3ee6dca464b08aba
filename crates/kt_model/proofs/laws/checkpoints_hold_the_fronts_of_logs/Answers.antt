use Rattle.kt_model.proofs.Lasting.{stores-reached, permanent-reached}
use Rattle.kt_model.proofs.laws.checkpoints_hold_the_fronts_of_logs.Goals as goal

pub returns-clause-fronts : goal.returns-clause-fronts
returns-clause-fronts c = λ s is. stores-reached s is

pub returns-clause-permanent : goal.returns-clause-permanent
returns-clause-permanent c = λ s is closed. permanent-reached s is closed
