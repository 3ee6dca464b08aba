use Rattle.std.proofs.Common.{◌≡◌, map, take}
use Rattle.kt_model.specs.State.{link}
use Rattle.kt_cells.specs.Lines.{message_line}
use Rattle.kt_cells.specs.Texts.{text_of}
use Rattle.kt_cells.proofs.cells.way_lines.Given as goal

abbrev pub invariant-loop-place : goal.invariant-loop-place
invariant-loop-place l = text_of l.lines.items ≡ map message_line (take l.place (link l.world.state l.from l.to))
