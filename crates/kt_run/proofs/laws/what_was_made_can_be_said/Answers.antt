use Rattle.kt_run.proofs.Said.{made_is_said}
use Rattle.kt_run.proofs.laws.what_was_made_can_be_said.Goals as goal

pub returns : goal.returns
returns c = made_is_said
