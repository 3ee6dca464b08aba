use Rattle.std.proofs.Common.{length}
use Rattle.kt_script.proofs.meaning.Scope.+has_kinds.Given as goal

abbrev pub decreases-has_kinds : goal.decreases-has_kinds
decreases-has_kinds l = length l.slots.now
