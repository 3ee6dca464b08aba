-- What the code has in hand between two parts of a change.
-- Cited by Sieving, updating.rt, `updating::sieve`.
use Rattle.std.specs.Prelude.{List, ◌++◌, if◌then◌else◌, [], ◌∷◌}
use Rattle.kt_tuple.specs.declared.node.NodeId.{NodeId}
use Rattle.kt_link.specs.declared.label.Label.{Label}
use Rattle.kt_state.specs.declared.message.AppMessage.{AppMessage}
use Rattle.kt_state.specs.Updating.{is_above}

-- the first kept message is taken off, and stands behind the others unless it is one of these
abbrev pub turned_over : NodeId → Label → List (NodeId × AppMessage) → List (NodeId × AppMessage)
turned_over from l [] = []
turned_over from l (x ∷ later) = if is_above from l x then later else later ++ x ∷ []
