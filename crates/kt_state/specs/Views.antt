-- What the code holds and lends, as plain data.
-- Cited by loading.rt, node.rt, saving.rt, specs/auxiliary/Rooms, stored.rt; other crates.
use Rattle.std.specs.Prelude.{Bool}
use Rattle.kt_state.specs.declared.role.Role.{Role as RoleCode}
use Rattle.kt_state.specs.Node.{Role, Node}

-- the abstract state of a node: the node, and whether one tuple more and one kept message more take no memory
pub record NodeModel : Type 0 where
  pub node : Node
  pub has_room : Bool

abbrev pub role_view : RoleCode → Role
role_view r = record { id = r.id; peers = r.peers; script = r.script.now }
