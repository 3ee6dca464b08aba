use Rattle.kt_summary.proofs.Marks.{struck-once}
use Rattle.kt_summary.proofs.laws.a_line_is_struck_once.Goals as goal

pub returns : goal.returns
returns c = λ lines steps place m n a b. struck-once lines steps place m n a b
