-- Scripts whose workers a checkpoint can hold.
-- Cited by FitBodies, Holding, Kept, Loads, Opened, Resuming, specs/Reached, specs/auxiliary/Ready; other crates.
use Rattle.std.specs.Prelude.{ℕ, ◌≤◌, List, length, IfSome}
use Rattle.kt_script.specs.declared.command.Command.{Command}
use Rattle.kt_script.specs.Rules.{IsScript}
use Rattle.kt_script.specs.Variables.{variables_of}
use Rattle.kt_script.specs.declared.script.TheConstants.{MAX_COMMANDS, MAX_VARIABLES}
use Rattle.kt_scenario.specs.Scene.{SceneModel, script_at}

-- a script, whose names each have values of one kind, has no more commands and variables than a checkpoint can count
pub record IsShort (script : List Command) : Type 0 where
  pub is_script : IsScript script
  pub commands : length script ≤ MAX_COMMANDS
  pub variables : length (variables_of script) ≤ MAX_VARIABLES

abbrev pub AreShort : SceneModel → Type 0
AreShort scene = (n : ℕ) → IfSome (script_at scene.scripts n) IsShort
