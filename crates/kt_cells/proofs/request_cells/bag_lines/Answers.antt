use Rattle.std.proofs.Common.{arith}
use Rattle.std.specs.Option.{option_copied}
use Rattle.kt_tuple.specs.Spelling.{tuple_text}
use Rattle.kt_cells.specs.Texts.{text_of}
use Rattle.kt_cells.proofs.Added.{taken_all, taken_more}
use Rattle.kt_cells.proofs.request_cells.bag_lines.Goals as goal

pub loop-place-preserved : goal.loop-place-preserved
loop-place-preserved c =
    taken_more tuple_text (c.args.bag.now.tuples) c.loop-place.place (text_of c.loop-place.lines.items)
    (text_of c.add_tuple.new.lines.items) (option_copied c.get.result) c.loop-place.invariant c.in_ok-add_tuple.ensures c.get.ensures

pub returns : goal.returns
returns c =
    taken_all tuple_text (c.args.bag.now.tuples) c.loop-place.place (text_of c.loop-place.lines.items)
    (omega (arith, c.len-place-end.ensures)) c.loop-place.invariant
