use Rattle.kt_model.proofs.Lasting.{made-first_cut}
use Rattle.kt_model.proofs.laws.only_a_failure_makes_the_first_cut.Goals as goal

pub returns : goal.returns
returns c = record { first = λ s is step new. made-first_cut s step new is }
