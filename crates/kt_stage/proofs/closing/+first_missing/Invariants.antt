use Rattle.std.proofs.Common.{length}
use Rattle.kt_stage.proofs.closing.+first_missing.Given as goal

abbrev pub decreases-first_missing : goal.decreases-first_missing
decreases-first_missing g l = length l.nodes.now
