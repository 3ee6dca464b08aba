use Rattle.kt_history.proofs.Sense.{IsWellFormed-push, MayFollow-from_fits}
use Rattle.kt_history.proofs.laws.well_formed_histories_grow.Goals as goal

pub returns-clause-grows : goal.returns-clause-grows
returns-clause-grows c = λ h note w f. IsWellFormed-push h note w f

pub returns-clause-follows : goal.returns-clause-follows
returns-clause-follows c = λ h note f. MayFollow-from_fits h note f
