use Rattle.kt_protocol.proofs.Rows.{roll-ask-step}
use Rattle.kt_protocol.proofs.laws.the_row_of_a_rollback_ask_is_a_step.Goals as goal

pub returns : goal.returns
returns c = λ peer k o x a s t front. roll-ask-step peer k o x a s t front
