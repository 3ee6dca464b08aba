use Rattle.std.proofs.Common.{sym}
use Rattle.kt_script.proofs.PlaceLemmas.{with_held-past}
use Rattle.kt_script.proofs.variables.hold.Goals as goal

pub returns-else-place-values : goal.returns-else-place-values
returns-else-place-values c = sym (with_held-past _ _ _ _ _ (sym c.in-Some.ensures) c.if-place-values.false)
