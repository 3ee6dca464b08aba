use Rattle.std.proofs.Common.{length}
use Rattle.kt_stage.proofs.closing.+first_unmatched.Given as goal

abbrev pub decreases-first_unmatched : goal.decreases-first_unmatched
decreases-first_unmatched g l = length l.some.now
