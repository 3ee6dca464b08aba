use Rattle.std.proofs.Common.{length}
use Rattle.kt_stage.proofs.closing.+is_matched.Given as goal

abbrev pub decreases-is_matched : goal.decreases-is_matched
decreases-is_matched g l = length l.seats.now
