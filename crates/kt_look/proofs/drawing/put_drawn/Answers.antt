use Rattle.kt_look.specs.Drawing.{end_by}
use Rattle.kt_look.proofs.Drawings.{putting_done, putting_failed}
use Rattle.kt_look.proofs.drawing.put_drawn.Goals as goal

pub returns-in-Ok : goal.returns-in-Ok
returns-in-Ok g c =
    putting_done c.args.drawn.now.text.items c.deref.result.now (end_by c.args.drawn.now.story.refused) c.ending.result c.args.writer.now
    c.write_text.new.writer c.deref.ensures.value c.ending.ensures c.in-Ok.ensures.whole

pub returns-in-Err : goal.returns-in-Err
returns-in-Err g c =
    putting_failed c.args.drawn.now.text.items c.deref.result.now (end_by c.args.drawn.now.story.refused) c.args.writer.now c.write_text.new.writer
    c.in-Err.fault c.deref.ensures.value c.in-Err.ensures.only c.in-Err.ensures.front
