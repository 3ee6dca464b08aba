use Rattle.std.proofs.Common.{length}
use Rattle.kt_stage.proofs.policy.+first_with_step.Given as goal

abbrev pub decreases-first_with_step : goal.decreases-first_with_step
decreases-first_with_step g l = length l.nodes.now
