use Rattle.std.proofs.Common.{length}
use Rattle.kt_explain.proofs.near.+nearest_below.Given as goal

abbrev pub decreases-nearest_below : goal.decreases-nearest_below
decreases-nearest_below l = length l.words.now
