use Rattle.kt_history.proofs.Logs.{log-stack}
use Rattle.kt_history.proofs.laws.logs_are_stacks.Goals as goal

pub returns : goal.returns
returns c = λ h p i e at. log-stack h p i e at
