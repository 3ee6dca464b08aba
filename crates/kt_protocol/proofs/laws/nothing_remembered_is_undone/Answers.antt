use Rattle.kt_protocol.proofs.Main.{holds_where_reached}
use Rattle.kt_protocol.proofs.Consequences.{remembered}
use Rattle.kt_protocol.proofs.laws.nothing_remembered_is_undone.Goals as goal

pub returns : goal.returns
returns c = λ peer s r steady p q by l h. remembered (holds_where_reached s r) steady p q by l h
