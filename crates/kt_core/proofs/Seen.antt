-- What a node of the scene sees lets it act and be saved.
-- Cited by `Machine::seen`.
use Rattle.std.proofs.Common.{◌≡◌, sym, subst}
use Rattle.kt_tuple.specs.declared.node.NodeId.{NodeId}
use Rattle.kt_node.specs.Speaking.{CanAct}
use Rattle.kt_node.specs.Saving.{CanSaveNode}
use Rattle.kt_node.specs.View.{View}
use Rattle.kt_model.specs.auxiliary.Ready.{IsReady}
use Rattle.kt_model.specs.State.{State, view}
use Rattle.kt_model.proofs.Shared.{can_act, can_save_node}

pub acts-of : (s : State) (v : View) (p : NodeId) → v ≡ view s p → IsReady s → CanAct v
acts-of s v p e ready = subst CanAct (sym e) (can_act s ready p)

pub saves-of : (s : State) (v : View) (p : NodeId) → v ≡ view s p → IsReady s → CanSaveNode v v.node
saves-of s v p e ready = let P : View → Type 0 = λ x. CanSaveNode x x.node in subst P (sym e) (can_save_node s ready p)
