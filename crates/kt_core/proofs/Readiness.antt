-- A node with a row has it in the code's table.
-- Cited by `Machine::make_room_for_short`, `Machine::make_room`.
use Rattle.std.proofs.Common.{◌≡◌, ℕ, ◌<◌, List, length, map, Option, arith}
use Rattle.std.proofs.lemmas.List.{length-map}
use Rattle.kt_tuple.specs.declared.node.NodeId.{NodeId}
use Rattle.kt_tuple.specs.Node.{node_index}
use Rattle.kt_state.specs.declared.node.Node.{Node}
use Rattle.kt_model.specs.Limits.{rows}
use Rattle.kt_core.specs.auxiliary.Rows.{row_view}

pub rows_there : (nodes : List (Option Node)) (p : NodeId) (k : ℕ) → k ≡ node_index p → node_index p < rows
    → length (map row_view nodes) ≡ rows → k < length nodes
rows_there nodes p k is row all = omega (arith, is, row, all, length-map nodes row_view)
