use Rattle.std.proofs.Common.{length}
use Rattle.kt_script.proofs.rules.+are_slot_kinds_kept.Given as goal

abbrev pub decreases-are_slot_kinds_kept : goal.decreases-are_slot_kinds_kept
decreases-are_slot_kinds_kept l = length l.slots.now
