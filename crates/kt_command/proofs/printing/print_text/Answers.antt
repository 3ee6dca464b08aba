use Rattle.kt_command.proofs.Printings.{writing_told}
use Rattle.kt_command.proofs.printing.print_text.Goals as goal

pub returns-in-Ok-clause-printed : goal.returns-in-Ok-clause-printed
returns-in-Ok-clause-printed g c =
    rw c.in-Ok.is (writing_told c.in-Ok.text.items c.deref.result.now _ _ c.write_text.result c.end_replay.result c.deref.ensures.value
    c.end_replay.ensures.status c.write_text.ensures.whole c.write_text.ensures.front c.write_text.ensures.only)
