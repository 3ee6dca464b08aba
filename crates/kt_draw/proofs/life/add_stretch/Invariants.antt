use Rattle.std.proofs.Common.{vec_len}
use Rattle.kt_draw.proofs.life.add_stretch.Given as goal

abbrev pub decreases-loop-stretch : goal.decreases-loop-stretch
decreases-loop-stretch l = vec_len l.found
