-- What was found of a store fits a scene, and the first node of which it does not.
-- Cited by judging.rt, `judging::first_unfit`; other crates.
use Rattle.std.specs.Prelude.{◌≡◌, List, ◌∷◌, ◌++◌, All, IsTrue}
use Rattle.kt_tuple.specs.declared.node.NodeId.{NodeId}
use Rattle.kt_store.specs.Content.{Content}
use Rattle.kt_scenario.specs.Scene.{SceneModel}
use Rattle.kt_model.specs.Resumed.{IsFit}
use Rattle.kt_resume.specs.declared.found.Found.{Found}

-- what was found of a node is what a world of this scene leaves
abbrev pub IsGood : SceneModel → Content → Found → Type 0
IsGood scene c f = IsFit scene c f.node × IsTrue f.has_instance_row

-- p is the node of the first of these that is not so
pub record IsFirstMisfit (scene : SceneModel) (c : Content) (found : List Found) (p : NodeId) : Type 0 where
  pub before : List Found
  pub first : Found
  pub later : List Found
  pub split : found ≡ before ++ first ∷ later
  pub node : first.node ≡ p
  pub good : All (IsGood scene c) before
  pub unfit : ¬ IsGood scene c first
