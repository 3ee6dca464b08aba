use Rattle.kt_protocol.proofs.Rows.{check-ask-step}
use Rattle.kt_protocol.proofs.laws.the_row_of_a_check_ask_is_a_step.Goals as goal

pub returns : goal.returns
returns c = λ peer k o x a first s t front. check-ask-step peer k o x a first s t front
