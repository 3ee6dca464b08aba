use Rattle.std.proofs.Common.{length}
use Rattle.kt_script.proofs.next.+next_from.Given as goal

abbrev pub decreases-next_from : goal.decreases-next_from
decreases-next_from l = length l.commands.now
