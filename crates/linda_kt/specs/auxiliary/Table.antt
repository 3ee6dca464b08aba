-- What the table of words says to `clap`.
-- Cited by Tables, grammar.rt, `grammar::with_arguments`, `grammar::with_commands`, `grammar::with_options`.
use Rattle.std.specs.Borrow.{Bor}
use Rattle.std.specs.Prelude.{[], ◌∷◌, ◌++◌, List, Option, None, Some, codes, if◌then◌else◌, map}
use Rattle.clap.specs.Words.{App, Rule, Shape, Text, new_rule, with_subcommand}
use Rattle.clap.specs.declared.builder.action.ArgAction.TheVariants.{SetTrue}
use Rattle.kt_words.specs.Word.{is_word}
use Rattle.kt_words.specs.declared.words.ArgumentWords.{ArgumentWords}
use Rattle.kt_words.specs.declared.words.CommandWords.{CommandWords}
use Rattle.kt_words.specs.declared.words.OptionWords.{OptionWords}
use Rattle.linda_kt.specs.Grammar.{command_shape, place_rule}

-- an argument has its place and no name
abbrev pub argument_rule : ArgumentWords → Rule
argument_rule a = record (place_rule a.id.now) { required = a.is_required }

-- an option has one value, or is a flag
abbrev pub with_value : Rule → Option (Bor Text) → Rule
with_value r None = record r { action = Some SetTrue }
with_value r (Some value) = record r { value_names = 1 }

abbrev pub option_rule : OptionWords → Rule
option_rule o = with_value (record (new_rule o.long.now) { long = Some o.long.now; required = o.is_required }) o.value

-- a command with these rules behind its own
abbrev pub with_rules : Shape → List Rule → Shape
with_rules s rules = record s { rules = s.rules ++ rules }

-- a command of the table
abbrev pub table_shape : CommandWords → Shape
table_shape c = command_shape c.name.now (map argument_rule c.arguments.now ++ map option_rule c.options.now)

-- with a command of the table; `clap` has the command `help` of itself
abbrev pub with_listed : App → CommandWords → App
with_listed a c = if is_word c.name.now (codes "help") then a else with_subcommand a (table_shape c)

-- with each of these in turn
abbrev pub with_table : App → List CommandWords → App
with_table a [] = a
with_table a (c ∷ table) = with_table (with_listed a c) table
