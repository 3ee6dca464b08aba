-- The shells and their names.
-- Cited by bash.rt, completing.rt, fish.rt, shell.rt, zsh.rt, `bash::push_bash`, `fish::push_fish`, `zsh::push_zsh`;
--   other crates.
use Rattle.std.specs.Prelude.{◌≡◌, ℕ, if◌then◌else◌, List, Option, None, Some, codes, refl}
use Rattle.kt_words.specs.declared.shell.Shell.{Shell}
use Rattle.kt_words.specs.declared.shell.Shell.TheVariants.{Bash, Zsh, Fish}
use Rattle.kt_words.specs.Word.{is_word}

abbrev pub name_of : Shell → List ℕ
name_of Bash = codes "bash"
name_of Zsh = codes "zsh"
name_of Fish = codes "fish"

-- what a script says of itself: which shell it is for
abbrev pub purpose_of : Shell → List ℕ
purpose_of Bash = codes "# Completes the words of linda_kt in bash."
purpose_of Zsh = codes "# Completes the words of linda_kt in zsh."
purpose_of Fish = codes "# Completes the words of linda_kt in fish."

-- the shell of a name, if one has it
abbrev pub shell_of : List ℕ → Option Shell
shell_of name =
    if is_word name (codes "bash") then Some Bash
    else if is_word name (codes "zsh") then Some Zsh
    else if is_word name (codes "fish") then Some Fish
    else None

-- each shell is that of its name
pub shell_of-name_of : (shell : Shell) → shell_of (name_of shell) ≡ Some shell
shell_of-name_of Bash = refl
shell_of-name_of Zsh = refl
shell_of-name_of Fish = refl
