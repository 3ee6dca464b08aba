use Rattle.std.proofs.Common.{length}
use Rattle.kt_resume.proofs.found.+found_of.Given as goal

abbrev pub decreases-found_of : goal.decreases-found_of
decreases-found_of l = length l.found.now
