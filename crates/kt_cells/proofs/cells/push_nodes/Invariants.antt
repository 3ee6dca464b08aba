use Rattle.std.proofs.Common.{◌≡◌, ◌++◌, take}
use Rattle.std.specs.List.{flat_map}
use Rattle.kt_cells.specs.Cells.{cells_at}
use Rattle.kt_cells.specs.Texts.{cells_text}
use Rattle.kt_cells.proofs.cells.push_nodes.Given as goal

abbrev pub invariant-loop-node : goal.invariant-loop-node
invariant-loop-node l = cells_text l.cells.items ≡ cells_text l.initial.cells.items ++ flat_map (cells_at l.world.state) (take l.node-index l.nodes)
