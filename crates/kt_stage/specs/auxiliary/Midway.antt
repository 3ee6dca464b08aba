-- What a stage and a run keep on the way.
-- Cited by Finding, Making, Seats, closing.rt, locked_journal.rt, traffic.rt, `Stage::close`, `Stage::open_or_back`.
use Rattle.std.specs.Prelude.{◌≡◌, List, None, Bool, false, Option, Some}
use Rattle.kt_tuple.specs.declared.node.NodeId.{NodeId}
use Rattle.kt_scenario.specs.declared.step.Step.{Step}
use Rattle.kt_stage.specs.Journal.{Held}
use Rattle.std.specs.List.{list_all}
use Rattle.kt_scenario.specs.Scene.{SceneModel}
use Rattle.kt_scenario.specs.Step.{owner}
use Rattle.kt_stage.specs.Order.{has_node}
use Rattle.kt_stage.specs.Closing.{IsFirstUnmatched, first_missing}

-- each seat is of a node that is matched, and each node has one
abbrev pub IsClosed : List NodeId → List Step → List Held → Type 0
IsClosed nodes steps seats = IsFirstUnmatched steps seats seats None × (first_missing nodes seats ≡ None)

-- each step is of a node of the scene
abbrev pub are_owned : SceneModel → List Step → Bool
are_owned scene steps = list_all (λ step. has_node scene (owner step)) steps

-- it passes this test, if it is there
abbrev pub is_found : {A : Type 0} → (A → Bool) → Option A → Bool
is_found test None = false
is_found test (Some x) = test x
