use Rattle.kt_protocol.proofs.Main.{holds_where_reached}
use Rattle.kt_protocol.proofs.Consequences.{forced_to_roll}
use Rattle.kt_protocol.proofs.laws.rolling_is_forced.Goals as goal

pub returns : goal.returns
returns c = λ peer s t r x o up h. forced_to_roll r.near (holds_where_reached s r) x o up h
