use Rattle.kt_history.specs.Past.{itself}
use Rattle.kt_history.proofs.Sense.{PastByStep-of}
use Rattle.kt_history.proofs.laws.the_past_goes_back_step_by_step.Goals as goal

pub returns-clause-itself : goal.returns-clause-itself
returns-clause-itself c = λ h e. itself

pub returns-clause-previous : goal.returns-clause-previous
returns-clause-previous c = λ h e f a at some p. (PastByStep-of h e f a at).previous some p

pub returns-clause-cause : goal.returns-clause-cause
returns-clause-cause c = λ h e f a at some p. (PastByStep-of h e f a at).cause some p

pub returns-clause-nothing_else : goal.returns-clause-nothing_else
returns-clause-nothing_else c = λ h e f a at p. (PastByStep-of h e f a at).only p
