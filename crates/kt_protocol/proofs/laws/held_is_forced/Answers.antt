use Rattle.kt_protocol.proofs.Main.{holds_where_reached}
use Rattle.kt_protocol.proofs.Consequences.{why_held}
use Rattle.kt_protocol.proofs.laws.held_is_forced.Goals as goal

pub returns : goal.returns
returns c = λ peer s t r x o up h. why_held r.near (holds_where_reached s r) x o up h
