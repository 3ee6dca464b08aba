use Rattle.std.proofs.Common.{ap, sym, ◌∙◌}
use Rattle.kt_cells.specs.Cells.{cells_of}
use Rattle.kt_page.proofs.watch.seen_with.Goals as goal

pub returns-in-Ok-clause-cells : goal.returns-in-Ok-clause-cells
returns-in-Ok-clause-cells c = c.requires ∙ ap cells_of (sym c.in-Ok.ensures.state)
