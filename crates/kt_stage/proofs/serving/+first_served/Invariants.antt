use Rattle.std.proofs.Common.{length}
use Rattle.kt_stage.proofs.serving.+first_served.Given as goal

abbrev pub decreases-first_served : goal.decreases-first_served
decreases-first_served g l = length l.workers.now
