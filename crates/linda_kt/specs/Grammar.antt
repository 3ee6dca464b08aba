-- The grammar of the command line, as a shape of `clap`: each command with its options and its own words.
-- Cited by Parsed, grammar.rt, specs/Words, specs/auxiliary/Table.
use Rattle.std.specs.Prelude.{true, [], ◌∷◌, List, Some, codes}
use Rattle.clap.specs.Words.{App, Rule, Shape, Text, new_app, new_rule, with_subcommand}
use Rattle.clap.specs.declared.builder.action.ArgAction.TheVariants.{SetTrue}
use Rattle.clap.specs.Simple.{new_shape, on_top}

-- an option with one value, and one that must stand
abbrev pub valued_rule : Text → Rule
valued_rule name = record (new_rule name) { long = Some name; value_names = 1 }

abbrev pub wanted_rule : Text → Rule
wanted_rule name = record (valued_rule name) { required = true }

-- a flag
abbrev pub flag_rule : Text → Rule
flag_rule name = record (new_rule name) { long = Some name; action = Some SetTrue }

-- a word that has its place and no name, and one that must stand
abbrev pub place_rule : Text → Rule
place_rule id = record (new_rule id) { value_names = 1 }

abbrev pub word_rule : Text → Rule
word_rule id = record (place_rule id) { required = true }

-- the file of a scenario, and two flags that most commands have
abbrev pub scenario_rule : Rule
scenario_rule = place_rule (codes "scenario")

abbrev pub explain_rule : Rule
explain_rule = flag_rule (codes "explain")

abbrev pub json_rule : Rule
json_rule = flag_rule (codes "json")

-- a command of this name
abbrev pub command_shape : Text → List Rule → Shape
command_shape name rules = record (new_shape name) { rules = rules }

-- each command
abbrev pub replay_shape : Shape
replay_shape =
    command_shape (codes "replay") (scenario_rule ∷ valued_rule (codes "store") ∷ explain_rule ∷ json_rule ∷ [])

abbrev pub run_shape : Shape
run_shape =
    command_shape (codes "run") (scenario_rule ∷ valued_rule (codes "store") ∷ flag_rule (codes "journal")
    ∷ flag_rule (codes "resume") ∷ valued_rule (codes "times") ∷ valued_rule (codes "chaos")
    ∷ valued_rule (codes "seed") ∷ explain_rule ∷ json_rule ∷ [])

abbrev pub resume_shape : Shape
resume_shape =
    command_shape (codes "resume") (scenario_rule ∷ wanted_rule (codes "store") ∷ explain_rule ∷ json_rule ∷ [])

abbrev pub migrate_shape : Shape
migrate_shape = command_shape (codes "migrate") (scenario_rule ∷ wanted_rule (codes "store") ∷ [])

abbrev pub check_shape : Shape
check_shape = command_shape (codes "check") (scenario_rule ∷ explain_rule ∷ json_rule ∷ [])

abbrev pub complete_shape : Shape
complete_shape = command_shape (codes "complete") (scenario_rule ∷ [])

abbrev pub trace_shape : Shape
trace_shape =
    command_shape (codes "trace") (scenario_rule ∷ valued_rule (codes "from") ∷ valued_rule (codes "to")
    ∷ valued_rule (codes "node") ∷ json_rule ∷ [])

abbrev pub draw_shape : Shape
draw_shape =
    command_shape (codes "draw") (scenario_rule ∷ flag_rule (codes "html") ∷ valued_rule (codes "from")
    ∷ valued_rule (codes "to") ∷ [])

abbrev pub show_shape : Shape
show_shape = command_shape (codes "show") (word_rule (codes "store") ∷ json_rule ∷ [])

abbrev pub explain_shape : Shape
explain_shape = command_shape (codes "explain") (word_rule (codes "meaning") ∷ [])

abbrev pub completion_shape : Shape
completion_shape = command_shape (codes "completion") (word_rule (codes "shell") ∷ [])

abbrev pub manual_shape : Shape
manual_shape = command_shape (codes "manual") []

-- in the order of the help
abbrev pub command_shapes : List Shape
command_shapes =
    replay_shape ∷ run_shape ∷ resume_shape ∷ migrate_shape ∷ check_shape ∷ complete_shape ∷ trace_shape ∷ draw_shape
    ∷ show_shape ∷ explain_shape ∷ completion_shape ∷ manual_shape ∷ []

-- the program's name, and that it has a version
abbrev pub program_app : App
program_app = on_top (λ s. record s { has_version = true }) (new_app (codes "linda_kt"))

-- with no program's name among its words, and one command, which must stand
abbrev pub bare_app : App
bare_app = on_top (λ s. record s { no_binary_name = true; subcommand_required = true }) program_app

-- with each of these commands behind its own
abbrev pub with_subcommands : App → List Shape → App
with_subcommands a [] = a
with_subcommands a (s ∷ shapes) = with_subcommands (with_subcommand a s) shapes

-- the command line; `clap` adds the command `help`
abbrev pub command_line_app : App
command_line_app = with_subcommands bare_app command_shapes
