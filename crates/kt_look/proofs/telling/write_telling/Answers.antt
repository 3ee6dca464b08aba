use Rattle.kt_look.proofs.Tellings.{writing_done, writing_failed}
use Rattle.kt_look.proofs.telling.write_telling.Goals as goal

pub returns-in-Ok : goal.returns-in-Ok
returns-in-Ok g c =
    writing_done c.args.telling.text.items c.deref.result.now c.args.telling.end c.args.writer.now c.write_text.new.writer c.deref.ensures.value
    c.in-Ok.ensures.whole

pub returns : goal.returns
returns g c =
    writing_failed c.args.telling.text.items c.deref.result.now c.args.telling.end c.args.writer.now c.write_text.new.writer c.in-Err.fault
    c.deref.ensures.value c.in-Err.ensures.only c.in-Err.ensures.front
