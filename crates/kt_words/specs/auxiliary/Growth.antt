-- A text that grows, and what of the table stands in it.
-- Cited by Growing, bash.rt, completing.rt, escape.rt, fish.rt, page.rt, page_commands.rt, text.rt, zsh.rt,
--   `bash::push_arguments`, `bash::push_cases`, `bash::push_names`, `bash::push_options`, `bash::push_valued`,
--   `escape::push_escaped`, `fish::push_arguments`, `fish::push_cases`, `fish::push_options`, `page::push_statuses`,
--   `page_commands::push_argument_entries`, `page_commands::push_arguments`, `page_commands::push_commands`,
--   `page_commands::push_option_entries`, `page_commands::push_options` and 6 more.
use Rattle.std.specs.Prelude.{◌≡◌, ◌++◌, ℕ, List, All}
use Rattle.std.specs.Str.Iter.{HasSubslice}
use Rattle.kt_words.specs.declared.words.OptionWords.{OptionWords}
use Rattle.kt_words.specs.declared.words.CommandWords.{CommandWords}
use Rattle.kt_words.specs.Plain.{IsPlain}

-- the new text is the old one, with printable text behind it
pub record Extends (old new : List ℕ) : Type 0 where
  pub added : List ℕ
  pub whole : new ≡ old ++ added
  pub plain : IsPlain added

-- the option's name stands in the text
pub record HasOption (text : List ℕ) (option : OptionWords) : Type 0 where
  pub long : HasSubslice text option.long.now

-- that of each option does
pub record HasOptions (text : List ℕ) (options : List OptionWords) : Type 0 where
  pub each : All (HasOption text) options

-- the names of the command and of its options do
pub record HasCommand (text : List ℕ) (command : CommandWords) : Type 0 where
  pub name : HasSubslice text command.name.now
  pub options : HasOptions text command.options.now

-- those of each command do
pub record HasCommands (text : List ℕ) (commands : List CommandWords) : Type 0 where
  pub each : All (HasCommand text) commands
