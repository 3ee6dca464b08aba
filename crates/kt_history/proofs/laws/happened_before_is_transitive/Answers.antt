use Rattle.kt_history.proofs.Pasts.{InPast-trans}
use Rattle.kt_history.proofs.laws.happened_before_is_transitive.Goals as goal

pub returns : goal.returns
returns c = λ h d e f p q. InPast-trans h d p q
