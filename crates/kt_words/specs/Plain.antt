-- What is written: printable ASCII and line feeds.
-- Cited by Growing, Tables, bash.rt, command_table.rt, completing.rt, escape.rt, fish.rt, page.rt, page_commands.rt,
--   specs/auxiliary/Growth, specs/auxiliary/Parts, specs/auxiliary/Status, text.rt, zsh.rt; other crates.
use Rattle.std.specs.Borrow.{Bor}
use Rattle.std.specs.Int.{is_in_range}
use Rattle.std.specs.List.{list_all}
use Rattle.std.specs.Prelude.{ℕ, Bool, true, List, Option, None, Some, ◌==◌, ◌||◌, ◌&&◌, IsTrue}
use Rattle.kt_words.specs.declared.words.OptionWords.{OptionWords}
use Rattle.kt_words.specs.declared.words.ArgumentWords.{ArgumentWords}
use Rattle.kt_words.specs.declared.words.CommandWords.{CommandWords}

-- a line feed, or a byte that a terminal shows as it stands
abbrev pub is_plain_byte : ℕ → Bool
is_plain_byte c = c == 10 || is_in_range 32 126 c

-- such bytes alone
abbrev pub is_plain : List ℕ → Bool
is_plain text = list_all is_plain_byte text

abbrev pub IsPlain : List ℕ → Type 0
IsPlain text = IsTrue (is_plain text)

-- what stands for a value is
abbrev pub is_plain_value : Option (Bor (List ℕ)) → Bool
is_plain_value None = true
is_plain_value (Some value) = is_plain value.now

-- all that is said of an option is
abbrev pub is_plain_option : OptionWords → Bool
is_plain_option option = is_plain option.long.now && (is_plain_value option.value && is_plain option.help.now)

-- all that is said of an argument is
abbrev pub is_plain_argument : ArgumentWords → Bool
is_plain_argument argument =
    is_plain argument.name.now && (is_plain argument.help.now && list_all (λ v. is_plain v.now) argument.values.now)

-- all that is said of a command is
abbrev pub is_plain_command : CommandWords → Bool
is_plain_command command =
    is_plain command.name.now
    && (is_plain command.about.now
    && (list_all is_plain_argument command.arguments.now && list_all is_plain_option command.options.now))
