-- The words that the program knows, and how it ends by them.
-- Cited by Words, program.rt, `program::run_arguments`, `program::run_words`.
use Rattle.std.specs.Prelude.{◌≡◌, ℕ, Bool, false, ◌&&◌, ◌||◌, if◌then◌else◌, List, [], ◌∷◌, Option, None, Some, codes}
use Rattle.kt_scene.specs.Outside.{Reader, Writer}
use Rattle.kt_run.specs.declared.running.Output.TheVariants as outputs
use Rattle.kt_command.specs.declared.command.Command.{Command}
use Rattle.kt_command.specs.declared.command.Command.TheVariants.{Run}
use Rattle.kt_command.specs.Command.{Open, Text, command_of, is_word}
use Rattle.kt_command.specs.Status.{EndsInMemory}

-- the command that three words name: a run with its two flags, in either order
abbrev pub command_of_three : Text → Text → Text → Option Command
command_of_three name first second =
    if is_word name (codes "run") && (is_word first (codes "--journal") && is_word second (codes "--explain")
    || is_word first (codes "--explain") && is_word second (codes "--journal"))
    then Some (Run Open outputs.Journal)
    else None

-- the command that one word names: those that go on from a file are none
abbrev pub command_of_one : Text → Option Command
command_of_one name = if is_word name (codes "resume") then None else command_of name false false

-- the command that two words name
abbrev pub command_of_two : Text → Text → Option Command
command_of_two name flag =
    if is_word flag (codes "--explain") then command_of_one name
    else if is_word name (codes "run")
    then if is_word flag (codes "--journal") then Some (Run Open outputs.Journal) else None
    else None

-- the command that the words name: `replay`, `run`, or `run --journal`, each with `--explain` or without
abbrev pub command_asked : List Text → Option Command
command_asked [] = None
command_asked (name ∷ []) = command_of_one name
command_asked (name ∷ flag ∷ []) = command_of_two name flag
command_asked (name ∷ first ∷ second ∷ []) = command_of_three name first second
command_asked (name ∷ first ∷ second ∷ more ∷ words) = None

-- the words of a command ask for an explanation
abbrev pub ask_for_words : List Text → Bool
ask_for_words (name ∷ flag ∷ []) = is_word flag (codes "--explain")
ask_for_words (name ∷ first ∷ second ∷ []) = is_word first (codes "--explain") || is_word second (codes "--explain")
ask_for_words words = false

-- the exit status by the words: that of the command that they name, over a fresh store in memory; 2 where they name
-- none; 6 where memory ran out before they were read. Of the last two nothing is read and nothing written.
pub data IsQuickStatus (words : List Text) (before after : Reader) (old new : Writer) (n : ℕ) : Type 0 where
  did : (command : Command) → command_asked words ≡ Some command → EndsInMemory command before after old new n
      → IsQuickStatus words before after old new n
  refused : command_asked words ≡ None → n ≡ 2 → after ≡ before → new ≡ old → IsQuickStatus words before after old new n
  unread : n ≡ 6 → after ≡ before → new ≡ old → IsQuickStatus words before after old new n
