-- Who takes part.
-- Cited by Nodes, scene.rt; other crates.
use Rattle.std.specs.Prelude.{ℕ, zero, suc, ◌≤◌, nat_le, Bool, false, ◌&&◌, ◌||◌, List, length, Option, None, slice_get}
use Rattle.std.specs.Prelude.{is_some}
use Rattle.kt_tuple.specs.declared.node.TheConstants.{MAX_WORKERS, MAX_SHARDS}
use Rattle.kt_tuple.specs.declared.node.NodeId.{NodeId}
use Rattle.kt_tuple.specs.declared.node.NodeId.TheVariants as ids
use Rattle.kt_script.specs.declared.command.Command.{Command}
use Rattle.kt_scenario.specs.declared.step.Step.{Step}
use Rattle.kt_scenario.specs.declared.step.Step.TheVariants.{Issue, Repeat, Deliver, Take, Serve, Check, Decide}
use Rattle.kt_scenario.specs.declared.step.Step.TheVariants.{Abandon}
use Rattle.kt_scenario.specs.declared.step.Step.TheVariants.{Learn, Fail, Restart}

-- how many shards there are, and each worker's script
pub record SceneModel : Type 0 where
  pub shards : ℕ
  pub scripts : List (List Command)

-- one shard and one worker at least, and no more than a scene may have
pub record IsScene (scene : SceneModel) : Type 0 where
  pub some_shards : 1 ≤ scene.shards
  pub few_shards : scene.shards ≤ MAX_SHARDS
  pub some_workers : 1 ≤ length scene.scripts
  pub few_workers : length scene.scripts ≤ MAX_WORKERS

-- the number names one of so many, counted from 1
abbrev pub is_among : ℕ → ℕ → Bool
is_among count n = nat_le 1 n && nat_le n count

-- the script of the worker with this number, counted from 1
abbrev pub script_at : List (List Command) → ℕ → Option (List Command)
script_at scripts zero = None
script_at scripts (suc n) = slice_get scripts n

-- the script of p, where it is a worker of the scene
abbrev pub script_in : SceneModel → NodeId → Option (List Command)
script_in scene (ids.Worker n) = script_at scene.scripts n
script_in scene (ids.Shard n) = None

-- p is a worker of the scene
abbrev pub is_worker : SceneModel → NodeId → Bool
is_worker scene p = is_some (script_in scene p)

-- p is a shard of the scene
abbrev pub is_shard : SceneModel → NodeId → Bool
is_shard scene (ids.Worker n) = false
is_shard scene (ids.Shard n) = is_among scene.shards n

-- one is a worker of the scene and the other a shard: only these send each other messages
abbrev pub are_neighbours : SceneModel → NodeId → NodeId → Bool
are_neighbours scene p q = is_worker scene p && is_shard scene q || is_shard scene p && is_worker scene q

-- p is a node of the scene
abbrev pub is_node : SceneModel → NodeId → Bool
is_node scene p = is_worker scene p || is_shard scene p

-- the step names nodes of the scene, of the kinds that it is for
abbrev pub is_in_scene : SceneModel → Step → Bool
is_in_scene scene (Issue p) = is_worker scene p
is_in_scene scene (Repeat p) = is_worker scene p
is_in_scene scene (Deliver p q) = are_neighbours scene p q
is_in_scene scene (Serve p w place) = is_shard scene p && is_worker scene w
is_in_scene scene (Take p) = is_node scene p
is_in_scene scene (Check p) = is_node scene p
is_in_scene scene (Decide p) = is_node scene p
is_in_scene scene (Abandon p) = is_node scene p
is_in_scene scene (Learn p) = is_node scene p
is_in_scene scene (Fail p) = is_node scene p
is_in_scene scene (Restart p) = is_node scene p
