use Rattle.std.proofs.Common.{Ok, Err, refl}
use Rattle.kt_command.proofs.carrying.carry_over.Goals as goal

pub returns-in-Ok-clause-told : goal.returns-in-Ok-clause-told
returns-in-Ok-clause-told g c =
    record { answer = Ok c.in-Ok.connection; given = c.in-Ok.ensures.answer; ends = c.carry_connected.ensures.told }

pub returns-in-Err-clause-told : goal.returns-in-Err-clause-told
returns-in-Err-clause-told g c =
    record { answer = Err c.in-Err.fault; given = c.in-Err.ensures.answer; ends = (c.refuse_store.ensures, refl, refl) }
