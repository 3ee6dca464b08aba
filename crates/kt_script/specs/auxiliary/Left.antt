-- Whether an operation is left, told without its values.
-- Cited by Remains, next.rt, `Script::has_next`.
use Rattle.std.specs.Prelude.{ℕ, zero, suc, Bool, true, false, if◌then◌else◌, List, [], ◌∷◌}
use Rattle.kt_script.specs.declared.command.Command.{Command}
use Rattle.kt_script.specs.declared.command.Command.TheVariants.{Ask, Set, Unless}

-- among these commands, the first so many skipped, stands an operation; the test says whether the last answer was none
abbrev pub has_next_from : Bool → ℕ → List Command → Bool
has_next_from was_none skipped [] = false
has_next_from was_none (suc skipped) (command ∷ later) = has_next_from was_none skipped later
has_next_from was_none zero (Set variable source number ∷ later) = has_next_from was_none 0 later
has_next_from was_none zero (Unless count ∷ later) = has_next_from was_none (if was_none then count else 0) later
has_next_from was_none zero (Ask operation ∷ later) = true
