use Rattle.std.proofs.Common.{refl}
use Rattle.kt_look.specs.Drawing.{end_by}
use Rattle.kt_look.specs.auxiliary.Drawn.{is_undrawn}
use Rattle.kt_look.proofs.Drawings.{ends_drawn}
use Rattle.kt_look.proofs.drawing.write_drawn.Goals as goal

pub returns-in-Ok : goal.returns-in-Ok
returns-in-Ok g c =
    ends_drawn c.args.drawing c.args.text.now c.in-Ok.drawn.text.items (end_by c.in-Ok.drawn.story.refused) c.args.writer.now
    c.put_drawn-end.new.writer c.in-Ok.ensures.drawn c.put_drawn-end.ensures

pub returns-in-Err : goal.returns-in-Err
returns-in-Err g c = is_undrawn c.in-Err.fault c.in-Err.ensures.fault refl
