use Rattle.kt_command.specs.Meant.{said}
use Rattle.kt_command.specs.Printed.{printed}
use Rattle.kt_command.proofs.Printings.{not_empty}
use Rattle.kt_command.proofs.meaning.explain_word.Goals as goal

pub returns-else-is_empty-clause-told : goal.returns-else-is_empty-clause-told
returns-else-is_empty-clause-told g c =
    let some = not_empty c.in-Ok.text.items c.in-Ok.text.len c.is_empty.result c.in-Ok.text.ok.0 c.is_empty.ensures c.if-is_empty.false in
    said (printed c.in-Ok.text.items some c.print_text.ensures.printed)
