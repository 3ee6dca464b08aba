-- What an act makes of what is known of its worker.
-- Cited by Remakes, slot.rt, `Remade::makes`.
use Rattle.kt_history.specs.declared.note.Act.{Act}
use Rattle.kt_history.specs.declared.note.What.{What}
use Rattle.kt_logs.specs.ShardLog.{session_after, cause_after}
use Rattle.kt_resume.specs.Remade.{Slot}

-- the slot of the act's worker after it
abbrev pub slot_after : Slot → Act → What → Slot
slot_after s a what = record { session = session_after s.session a what; cause = cause_after s.cause a what }
