-- Where the acts of a node lead.
-- Cited by Fits, leads.rt, `judging::fits_in`.
use Rattle.std.specs.Prelude.{◌≡◌, List}
use Rattle.kt_tuple.specs.declared.node.NodeId.{NodeId}
use Rattle.kt_history.specs.declared.note.Act.{Act}
use Rattle.kt_ckpt.specs.declared.state.State.{State as Saved}
use Rattle.kt_logs.specs.Legal.{IsLog}
use Rattle.kt_state.specs.Node.{Body}
use Rattle.kt_state.specs.State.{body_fields}
use Rattle.kt_model.specs.Asks.{setting_of}
use Rattle.kt_scenario.specs.Scene.{SceneModel}
use Rattle.kt_model.specs.Like.{IsBodyLike}

-- the node may make these acts, and they lead to what is stored
pub record LeadsTo (scene : SceneModel) (p : NodeId) (acts : List Act) (stored : Saved) : Type 0 where
  pub allowed : IsLog (setting_of scene) p acts
  pub body : Body
  pub saved : stored ≡ body_fields body
  pub like : IsBodyLike scene.scripts p acts body
