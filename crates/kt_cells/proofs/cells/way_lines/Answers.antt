use Rattle.std.proofs.Common.{arith}
use Rattle.std.specs.Option.{option_copied}
use Rattle.kt_model.specs.State.{link}
use Rattle.kt_cells.specs.Lines.{message_line}
use Rattle.kt_cells.specs.Texts.{text_of}
use Rattle.kt_cells.proofs.Added.{taken_all, taken_more}
use Rattle.kt_cells.proofs.cells.way_lines.Goals as goal

pub loop-place-preserved : goal.loop-place-preserved
loop-place-preserved c =
    taken_more message_line (link c.args.world.now.state c.args.from c.args.to) c.loop-place.place (text_of c.loop-place.lines.items)
    (text_of c.add_message.new.lines.items) (option_copied c.link_at.result) c.loop-place.invariant c.in_ok-add_message.ensures c.link_at.ensures

pub returns : goal.returns
returns c =
    taken_all message_line (link c.args.world.now.state c.args.from c.args.to) c.loop-place.place (text_of c.loop-place.lines.items)
    (omega (arith, c.link_len-place-end.ensures)) c.loop-place.invariant
