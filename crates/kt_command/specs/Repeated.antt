-- How several runs of a scenario end, each over a fresh store in memory.
-- Cited by repeating.rt, specs/Opened.
use Rattle.std.specs.Prelude.{ℕ}
use Rattle.kt_scene.specs.Outside.{Reader, Writer}
use Rattle.kt_trials.specs.Runs.{IsTallyFault, WritesTally, WritesTallyFront}
use Rattle.kt_command.specs.Status.{EndsByThreads}

-- the whole is the tally of the reports of so many runs of what was read
abbrev pub EndsRepeated : (times : ℕ) → (before after : Reader) (old new : Writer) → ℕ → Type 0
EndsRepeated times before after old new n =
    EndsByThreads (WritesTally times before after old new) (WritesTallyFront times before after old new)
    (IsTallyFault times before after) old new n
