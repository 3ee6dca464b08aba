-- A row of the code's table of nodes as plain data.
-- Cited by Later, Openings, Readiness, change.rt, machine.rt, opening.rt, specs/auxiliary/Machine, tables.rt,
--   `Machine::make_room_for_short`, `Machine::make_room`, `World::is_steady`, `change::change_node`,
--   `change::make_room_in_row`, `change::say_in_row`, `change::share_in_row`, `change::update_in_row`,
--   `opening::down_nodes`, `opening::push_rows`.
use Rattle.std.specs.Prelude.{Bool, Option, IfSome, IsTrue}
use Rattle.std.specs.Option.{option_map}
use Rattle.kt_state.specs.declared.node.Node.{Node as NodeCode}
use Rattle.kt_state.specs.Node.{Node}
use Rattle.kt_model.specs.Headline.{is_steady_row}

abbrev pub node_of : NodeCode → Node
node_of n = n.node

abbrev pub row_view : Option NodeCode → Option Node
row_view row = option_map node_of row

-- one more tuple and one more kept message take no memory
abbrev pub HasRoom : Option NodeCode → Type 0
HasRoom row = IfSome row (λ n. IsTrue n.has_room)

-- there is no node in the row, or one that is not down and does not roll back
abbrev pub is_steady_code : Option NodeCode → Bool
is_steady_code row = is_steady_row (row_view row)
