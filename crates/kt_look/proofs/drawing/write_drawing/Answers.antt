use Rattle.std.proofs.Common.{refl}
use Rattle.kt_look.specs.Drawing.{unread}
use Rattle.kt_look.proofs.Drawings.{ends_drawing_as}
use Rattle.kt_look.proofs.drawing.write_drawing.Goals as goal

pub returns-in-Ok : goal.returns-in-Ok
returns-in-Ok g c = record {
  ends = ends_drawing_as c.args.drawing c.args.reader.now c.read_text.new.reader c.in-Ok.text.items c.deref.result.now c.args.writer.now
      c.write_drawn.new.writer c.write_drawn.result c.deref.ensures.value c.in-Ok.ensures.read c.write_drawn.ensures;
}

pub returns-in-Err : goal.returns-in-Err
returns-in-Err g c = record { ends = unread c.in-Err.fault c.in-Err.ensures.only refl }
