use Rattle.std.proofs.Common.{◌≡◌, map, take}
use Rattle.kt_tuple.specs.Spelling.{tuple_text}
use Rattle.kt_cells.specs.Texts.{text_of}
use Rattle.kt_cells.proofs.request_cells.bag_lines.Given as goal

abbrev pub invariant-loop-place : goal.invariant-loop-place
invariant-loop-place l = text_of l.lines.items ≡ map tuple_text (take l.place l.bag.tuples)
