use Rattle.std.proofs.Common.{length}
use Rattle.kt_script.proofs.next.+has_next_from.Given as goal

abbrev pub decreases-has_next_from : goal.decreases-has_next_from
decreases-has_next_from l = length l.commands.now
