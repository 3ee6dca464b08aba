use Rattle.std.proofs.Common.{◌≡◌, ◌++◌, take}
use Rattle.std.specs.List.{flat_map}
use Rattle.kt_cells.specs.Cells.{waiting_of}
use Rattle.kt_cells.specs.Texts.{text_of}
use Rattle.kt_cells.proofs.request_cells.add_all_waiting.Given as goal

abbrev pub invariant-loop-node : goal.invariant-loop-node
invariant-loop-node l = text_of l.lines.items ≡ text_of l.initial.lines.items ++ flat_map (waiting_of l.shard.state) (take l.node-index l.nodes)
