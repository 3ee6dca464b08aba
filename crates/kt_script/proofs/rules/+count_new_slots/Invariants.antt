use Rattle.std.proofs.Common.{length}
use Rattle.kt_script.proofs.rules.+count_new_slots.Given as goal

abbrev pub decreases-count_new_slots : goal.decreases-count_new_slots
decreases-count_new_slots l = length l.slots.now
