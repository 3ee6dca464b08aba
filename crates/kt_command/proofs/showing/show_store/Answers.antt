use Rattle.std.proofs.Common.{refl}
use Rattle.kt_command.specs.Shown.{refused}
use Rattle.kt_command.proofs.Printings.{showing_told}
use Rattle.kt_command.proofs.showing.show_store.Goals as goal

pub returns-in-Ok-clause-told : goal.returns-in-Ok-clause-told
returns-in-Ok-clause-told g c =
    showing_told g.S.CkptStore c.args.store c.shown.new.store c.args.is_json c.in-Ok.text.items c.deref.result.now _ _ c.write_text.result
    c.end_replay.result c.deref.ensures.value c.in-Ok.ensures.text c.end_replay.ensures.status c.write_text.ensures.whole c.write_text.ensures.front
    c.write_text.ensures.only

pub returns-clause-told : goal.returns-clause-told
returns-clause-told g c = refused c.shown.new.store c.in-Err.why c.in-Err.ensures.cause refl c.refuse_store.ensures
