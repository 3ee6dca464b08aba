use Rattle.std.proofs.Common.{length}
use Rattle.kt_stage.proofs.stage.+count_among.Given as goal

abbrev pub decreases-count_among : goal.decreases-count_among
decreases-count_among g l = length l.names.now
