use Rattle.std.proofs.Common.{Ok, Err, refl}
use Rattle.kt_command.proofs.showing.show_copy.Goals as goal

pub returns-in-Ok-clause-told : goal.returns-in-Ok-clause-told
returns-in-Ok-clause-told g c = record { answer = Ok c.in-Ok.store; given = c.in-Ok.ensures; ends = c.show_store.ensures.told }

pub returns-in-Err-clause-told : goal.returns-in-Err-clause-told
returns-in-Err-clause-told g c = record { answer = Err c.in-Err.fault; given = c.in-Err.ensures; ends = (c.refuse_store.ensures, refl) }
