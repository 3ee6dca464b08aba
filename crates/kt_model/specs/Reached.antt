-- The states that a world can be in: those that steps lead to from the opening of a scene, or from what a store holds
-- that fits the scene.
-- Cited by AllInstanceRows, FirstCut, Fit, HeldActs, Holding, Kept, Lasting, NeverUnfit, Opened, OpenedSound,
--   OwnRows, ResumedRows, ResumedServices, Rows, laws.rt; other crates.
use Rattle.std.specs.Prelude.{◌≡◌, ℕ, zero, suc, ◌*◌, if◌then◌else◌, length, List, [], ◌∷◌, ◌++◌, replicate, Option}
use Rattle.std.specs.Prelude.{None, Some, Result, Ok, Err}
use Rattle.kt_tuple.specs.declared.node.NodeId.{NodeId}
use Rattle.kt_tuple.specs.declared.node.NodeId.TheVariants as ids
use Rattle.kt_shard.specs.Limits.{sessions}
use Rattle.kt_store.specs.Content.{Content, empty_content}
use Rattle.kt_store.specs.Proper.{IsProper}
use Rattle.kt_state.specs.Node.{Node, opening_node}
use Rattle.kt_scenario.specs.declared.step.Step.{Step}
use Rattle.kt_model.specs.declared.error.StepError.{StepError}
use Rattle.kt_model.specs.Limits.{rows}
use Rattle.kt_scenario.specs.Scene.{SceneModel, IsScene, is_node}
use Rattle.kt_model.specs.Short.{AreShort}
use Rattle.kt_model.specs.State.{State, role_of}
use Rattle.kt_model.specs.Effect.{step_result}
use Rattle.kt_model.specs.Resumed.{AllFit, resumed}

-- the row of a node, which is empty where the scene has no such node
abbrev pub opening_row : SceneModel → NodeId → Option Node
opening_row scene p = if is_node scene p then Some (opening_node (role_of scene p)) else None

-- the rows of the workers and shards with a number below this one
unfoldable pub opening_rows : SceneModel → ℕ → List (Option Node)
opening_rows scene zero = []
opening_rows scene (suc n) = opening_rows scene n
    ++ opening_row scene (ids.Worker n) ∷ opening_row scene (ids.Shard n) ∷ []

-- nothing was done yet, over a fresh store
abbrev pub opening : SceneModel → State
opening scene = record {
  scene = scene;
  nodes = opening_rows scene sessions;
  links = replicate (2 * (length scene.scripts * scene.shards)) [];
  content = empty_content;
  history = [];
  own = replicate rows 0;
  made = 0;
  found = None;
}

abbrev pub or_as_it_was : Result State StepError → State → State
or_as_it_was (Ok new) old = new
or_as_it_was (Err refusal) old = old

-- the state after a step: a refused one changes nothing
abbrev pub next_state : State → Step → State
next_state s step = or_as_it_was (step_result s step) s

-- the state after these steps
unfoldable pub after : State → List Step → State
after s [] = s
after s (step ∷ later) = after (next_state s step) later

-- the first state of a world: it was opened, or goes on from what a store holds that fits the scene
pub data IsStart : State → Type 0 where
  opened : (scene : SceneModel) → IsScene scene → AreShort scene → IsStart (opening scene)
  resumes : (scene : SceneModel) (c : Content) → IsScene scene → AreShort scene → IsProper c → AllFit scene c
      → IsStart (resumed scene c)

-- some list of steps leads to this state from the first state of some world whose scripts a checkpoint can count
pub record IsReached (s : State) : Type 0 where
  pub start : State
  pub is_start : IsStart start
  pub steps : List Step
  pub leads : after start steps ≡ s
