use Rattle.std.proofs.Common.{◌≡◌, ◌++◌, take}
use Rattle.std.specs.List.{flat_map}
use Rattle.kt_cells.specs.Cells.{ways_from}
use Rattle.kt_cells.specs.Texts.{cells_text}
use Rattle.kt_cells.proofs.cells.push_all_ways.Given as goal

abbrev pub invariant-loop-from : goal.invariant-loop-from
invariant-loop-from l = cells_text l.cells.items ≡ cells_text l.initial.cells.items ++ flat_map (ways_from l.world.state) (take l.from-index l.nodes)
