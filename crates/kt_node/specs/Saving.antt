-- When a checkpoint of a node can be taken: its counts are those of the format.
-- Cited by arrivals.rt, deciding.rt, joining.rt; other crates.
use Rattle.kt_ckpt.specs.Checkpoint.{HasCounts}
use Rattle.kt_state.specs.Node.{Live, Node, Down, Alive}
use Rattle.kt_node.specs.View.{View}
use Rattle.kt_node.specs.Joining.{checkpoint_now}

abbrev pub CanSave : View → Live → Type 0
CanSave v n = HasCounts (checkpoint_now v n)

-- the same of a node that may be down
abbrev pub CanSaveNode : View → Node → Type 0
CanSaveNode v Down = Unit {0}
CanSaveNode v (Alive n) = CanSave v n
