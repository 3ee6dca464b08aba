use Rattle.std.proofs.Common.{refl}
use Rattle.kt_command.specs.Checked.{unread}
use Rattle.kt_command.proofs.Checkings.{line_told, misread_told}
use Rattle.kt_command.proofs.checking.check_text.Goals as goal

pub returns-in-Ok-checked-clause-told : goal.returns-in-Ok-checked-clause-told
returns-in-Ok-checked-clause-told g c =
    line_told _ _ _ _ c.in-Ok.text.items c.deref.result.now c.in-Ok.ensures.read c.deref.ensures.value c.in-Ok-checked.line.items
    c.deref-in-Ok-checked.result.now c.write_text.result c.end_replay.result c.deref-in-Ok-checked.ensures.value c.in-Ok-checked.ensures.line
    c.end_replay.ensures.status c.write_text.ensures.whole c.write_text.ensures.front c.write_text.ensures.only

pub returns-in-Ok-clause-told : goal.returns-in-Ok-clause-told
returns-in-Ok-clause-told g c =
    misread_told _ _ _ _ c.in-Ok.text.items c.deref.result.now c.in-Ok.ensures.read c.deref.ensures.value c.in-Err-checked.fault _
    c.in-Err-checked.ensures.fault refl c.end_replay-in-Err-checked.ensures.status

pub returns-clause-told : goal.returns-clause-told
returns-clause-told g c = unread c.in-Err.fault c.in-Err.ensures.only refl c.end_replay-in-Err.ensures.status
