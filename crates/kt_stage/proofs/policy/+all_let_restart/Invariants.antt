use Rattle.std.proofs.Common.{length}
use Rattle.kt_stage.proofs.policy.+all_let_restart.Given as goal

abbrev pub decreases-all_let_restart : goal.decreases-all_let_restart
decreases-all_let_restart g l = length l.others.now
