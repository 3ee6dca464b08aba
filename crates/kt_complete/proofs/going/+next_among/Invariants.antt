use Rattle.std.proofs.Common.{length}
use Rattle.kt_complete.proofs.going.+next_among.Given as goal

abbrev pub decreases-next_among : goal.decreases-next_among
decreases-next_among g l = length l.nodes.now
