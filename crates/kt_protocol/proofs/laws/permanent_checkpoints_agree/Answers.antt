use Rattle.kt_protocol.proofs.Main.{holds_where_reached}
use Rattle.kt_protocol.proofs.Consequences.{agree}
use Rattle.kt_protocol.proofs.laws.permanent_checkpoints_agree.Goals as goal

pub returns : goal.returns
returns c = λ peer s r p q by l h. agree (holds_where_reached s r) p q by l h
