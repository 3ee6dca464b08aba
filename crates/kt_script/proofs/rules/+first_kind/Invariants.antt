use Rattle.std.proofs.Common.{length}
use Rattle.kt_script.proofs.rules.+first_kind.Given as goal

abbrev pub decreases-first_kind : goal.decreases-first_kind
decreases-first_kind l = length l.slots.now
