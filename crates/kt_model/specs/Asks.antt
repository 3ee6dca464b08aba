-- What the workers of a scene ask next.
-- Cited by ActKeeps, ActLeaves, Fitting, Following, Headlines, Lasting, NeverUnfit, NoteSound, OpenedSound,
--   PermanentPart, Renumbered, Shaped, ShardPlans, Sound, WorkerPlans, specs/Headline, specs/Like, specs/PermanentRun,
--   specs/Resumed, specs/Workers; other crates.
use Rattle.std.specs.Prelude.{ℕ, List, [], unwrap_or}
use Rattle.kt_script.specs.declared.command.Command.{Command}
use Rattle.kt_script.specs.Asks.{asks}
use Rattle.kt_scenario.specs.Scene.{SceneModel, script_at}
use Rattle.kt_logs.specs.Order.{Setting}

-- the script of the worker with this number, and where there is no such worker the script of no commands
abbrev pub script_numbered : List (List Command) → ℕ → List Command
script_numbered scripts n = unwrap_or (script_at scripts n) []

-- so many shards, and workers with these scripts
abbrev pub setting_of : SceneModel → Setting
setting_of scene = record { shards = scene.shards; asks = λ w. asks (script_numbered scene.scripts w) }
