-- How a world begins, and why one does not.
-- Cited by start.rt, `Start::begin`; other crates.
use Rattle.std.specs.Prelude.{◌≡◌, true}
use Rattle.kt_store.specs.Content.{Content, is_fresh}
use Rattle.kt_scenario.specs.Scene.{SceneModel}
use Rattle.kt_model.specs.Reached.{opening}
use Rattle.kt_model.specs.Resumed.{AreFit, resumed}
use Rattle.kt_model.specs.State.{State}
use Rattle.kt_core.specs.declared.start.Start.{Start}
use Rattle.kt_core.specs.declared.start.Start.TheVariants as starts
use Rattle.kt_core.specs.declared.start.StartError.{StartError}
use Rattle.kt_core.specs.declared.start.StartError.TheVariants as errors
use Rattle.kt_core.specs.Resuming.{IsResumeRefused}
use Rattle.kt_core.specs.Store.{StoreValue}
use Rattle.kt_core.specs.World.{IsOpenRefused}

-- the first state of a world of the scene that begins so over a store with this content: over a fresh one it is opened,
-- and over one that fits the scene it is resumed
abbrev pub Begins : Start → Content → SceneModel → State → Type 0
Begins starts.Open c scene s = (is_fresh c ≡ true) × (s ≡ opening scene)
Begins starts.Resume c scene s = AreFit scene c × (s ≡ resumed scene c)

-- the refusal is of a world that was to begin so
abbrev pub IsErrorOf : Start → StartError → Type 0
IsErrorOf starts.Open (errors.Open cause) = Unit {0}
IsErrorOf starts.Resume (errors.Resume cause) = Unit {0}
IsErrorOf start cause = ⊥

-- no world of this scene began, for this cause, and the store that was given is left as it was, but for what it counts
abbrev pub IsUnbegun : SceneModel → (was left : StoreValue) → StartError → Type 0
IsUnbegun scene was left (errors.Open cause) = IsOpenRefused was left cause
IsUnbegun scene was left (errors.Resume cause) = IsResumeRefused scene was left cause
