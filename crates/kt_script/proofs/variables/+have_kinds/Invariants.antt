use Rattle.std.proofs.Common.{length}
use Rattle.kt_script.proofs.variables.+have_kinds.Given as goal

abbrev pub decreases-have_kinds : goal.decreases-have_kinds
decreases-have_kinds l = length l.kinds.now
