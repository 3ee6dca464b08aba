use Rattle.std.proofs.Common.{length}
use Rattle.kt_script.proofs.meaning.+bind_tuple.Given as goal

abbrev pub decreases-bind_tuple : goal.decreases-bind_tuple
decreases-bind_tuple l = length l.slots.now
