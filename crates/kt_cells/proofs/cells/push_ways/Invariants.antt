use Rattle.std.proofs.Common.{◌≡◌, ◌++◌, take}
use Rattle.std.specs.List.{flat_map}
use Rattle.kt_cells.specs.Cells.{way_cells}
use Rattle.kt_cells.specs.Texts.{cells_text}
use Rattle.kt_cells.proofs.cells.push_ways.Given as goal

abbrev pub invariant-loop-to : goal.invariant-loop-to
invariant-loop-to l = cells_text l.cells.items ≡ cells_text l.initial.cells.items ++ flat_map (way_cells l.world.state l.from) (take l.to-index l.nodes)
