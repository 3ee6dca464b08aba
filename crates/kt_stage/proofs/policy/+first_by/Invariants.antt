use Rattle.std.proofs.Common.{length}
use Rattle.kt_stage.proofs.policy.+first_by.Given as goal

abbrev pub decreases-first_by : goal.decreases-first_by
decreases-first_by g l = length l.rules.now
