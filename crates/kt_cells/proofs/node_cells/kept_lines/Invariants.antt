use Rattle.std.proofs.Common.{◌≡◌, map, take}
use Rattle.kt_core.specs.Lent.{kept}
use Rattle.kt_cells.specs.Lines.{kept_line}
use Rattle.kt_cells.specs.Texts.{text_of}
use Rattle.kt_cells.proofs.node_cells.kept_lines.Given as goal

abbrev pub invariant-loop-place : goal.invariant-loop-place
invariant-loop-place l = text_of l.lines.items ≡ map (λ x. kept_line x.0 x.1) (take l.place (kept l.world.state l.node))
