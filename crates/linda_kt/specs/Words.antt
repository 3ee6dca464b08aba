-- The words of the command line: what they ask, and what is wrong with them.
-- Cited by Parsed, Statuses, looking.rt, program.rt, specs/Examples, specs/Status, trials.rt, words.rt,
--   `program::run_arguments`, `words::read_words`.
use Rattle.std.specs.Prelude.{◌≡◌, ◌≢◌, ◌⊎◌, ℕ, Bool, true, false, not, ◌&&◌, ◌||◌, List, [], ◌∷◌, Option, None, Some}
use Rattle.std.specs.Prelude.{codes, Result, Ok, Err, nat_le}
use Rattle.std.specs.Prelude.{is_some, unwrap_or, if◌then◌else◌}
use Rattle.clap.specs.Kinds.{or_else}
use Rattle.clap.specs.Words.{IsAmong, Kinds, Row, Text, fault_of, first_of}
use Rattle.clap.specs.Words.{subcommand_of}
use Rattle.clap.specs.declared.error.kind.ErrorKind.TheVariants.{ArgumentConflict, DisplayHelp, DisplayVersion}
use Rattle.clap.specs.declared.error.kind.ErrorKind.TheVariants.{InvalidValue}
use Rattle.clap.specs.declared.error.kind.ErrorKind.TheVariants.{MissingRequiredArgument, MissingSubcommand}
use Rattle.clap.specs.declared.error.kind.ErrorKind.TheVariants.{ValueValidation}
use Rattle.kt_command.specs.declared.command.Command.{Command}
use Rattle.kt_command.specs.Command.{Asked, Carries, Checks, Completes, Done, Draws, Explains, Makes, Prompts, Reads}
use Rattle.kt_command.specs.Command.{Repeats, Shows, Teaches, Traces, command_of, is_word, with_chaos}
use Rattle.kt_chaos.specs.declared.drawing.Chaos.{Chaos}
use Rattle.kt_words.specs.Shell.{shell_of}
use Rattle.kt_words.specs.declared.shell.Shell.{Shell}
use Rattle.kt_command.specs.Silence.{is_silent}
use Rattle.kt_command.specs.declared.request.Telling.{Telling}
use Rattle.kt_command.specs.declared.request.Telling.TheVariants as tellings
use Rattle.kt_command.specs.declared.request.Terminals.{Terminals}
use Rattle.std.specs.Option.{option_map_or}
use Rattle.linda_kt.specs.Grammar.{command_line_app}
use Rattle.linda_kt.specs.declared.words.Misfit.{Misfit}
use Rattle.linda_kt.specs.declared.looking.TheConstants.{LAST_STEP}
use Rattle.linda_kt.specs.declared.words.Misfit.TheVariants.{NoChaos, NoCommand, NoFile, NoSeed, NoShell, NoSteps}
use Rattle.linda_kt.specs.declared.words.Misfit.TheVariants.{OneRun, WrongChaos, WrongFrom, WrongNode, WrongSeed}
use Rattle.linda_kt.specs.declared.words.Misfit.TheVariants.{WrongTimes, WrongTo}
use Rattle.linda_kt.specs.Numbers.{count_of, node_named, number_of, step_of, times_of}
use Rattle.kt_look.specs.declared.drawing.Kind.{Kind}
use Rattle.kt_look.specs.declared.drawing.Kind.TheVariants as kinds
use Rattle.kt_look.specs.declared.telling.Form.{Form}
use Rattle.kt_look.specs.declared.telling.Form.TheVariants as forms
use Rattle.kt_tuple.specs.declared.node.NodeId.{NodeId}

-- a flag stands among a command's words: its text is that of `true` then
abbrev pub is_true : Option Text → Bool
is_true None = false
is_true (Some text) = is_word text (codes "true")

abbrev pub has_flag : Text → List Row → Bool
has_flag flag rows = is_true (first_of flag rows)

-- the text of an option that has to stand: words without it have a fault
abbrev pub required_text : Option Text → Text
required_text o = unwrap_or o []

-- what is asked, in other words
abbrev pub told_as : {X Y : Type 0} → (X → Y) → Result X Misfit → Result Y Misfit
told_as f (Ok x) = Ok (f x)
told_as f (Err misfit) = Err misfit

abbrev pub ok_of : {X : Type 0} → Result X Misfit → Option X
ok_of (Ok x) = Some x
ok_of (Err misfit) = None

-- a file, of which `-` is none
abbrev pub not_dash : Option Text → Option Text
not_dash None = None
not_dash (Some file) = if is_word file (codes "-") then None else Some file

-- the file of the scenario; none for standard input
abbrev pub scenario_of : List Row → Option Text
scenario_of rows = not_dash (first_of (codes "scenario") rows)

-- so many random fault lines by this seed
abbrev pub seeded : ℕ → Option ℕ → Result (Option Chaos) Misfit
seeded count None = Err WrongSeed
seeded count (Some seed) = Ok (Some (record { count = count; seed = seed }))

abbrev pub counted : Option ℕ → Option ℕ → Result (Option Chaos) Misfit
counted None seed = Err WrongChaos
counted (Some count) seed = seeded count seed

abbrev pub chaos_by : Text → Text → Result (Option Chaos) Misfit
chaos_by count seed = counted (count_of count) (number_of seed)

-- how many random fault lines are asked for, and by which seed: both stand there or neither
abbrev pub chaos_given : Option Text → Option Text → Result (Option Chaos) Misfit
chaos_given None None = Ok None
chaos_given None (Some seed) = Err NoChaos
chaos_given (Some count) None = Err NoSeed
chaos_given (Some count) (Some seed) = chaos_by count seed

abbrev pub chaos_of : List Row → Result (Option Chaos) Misfit
chaos_of rows = chaos_given (first_of (codes "chaos") rows) (first_of (codes "seed") rows)

-- a command over the store in a file, or in memory, with random fault lines or without
abbrev pub makes_over : Option Text → Option Chaos → Option Command → Result Done Misfit
makes_over store chaos None = Err NoCommand
makes_over store chaos (Some command) = Ok (Makes (with_chaos chaos command) store)

abbrev pub makes_with : Option Text → Option Command → Result (Option Chaos) Misfit → Result Done Misfit
makes_with store command (Err misfit) = Err misfit
makes_with store command (Ok chaos) = makes_over store chaos command

-- what a command over a store and its own words ask: to go on it wants a file
abbrev pub made_of : Text → List Row → Result Done Misfit
made_of name rows =
    if has_flag (codes "resume") rows && not (is_some (first_of (codes "store") rows)) then Err NoFile
    else makes_with (first_of (codes "store") rows)
    (command_of name (has_flag (codes "resume") rows) (has_flag (codes "journal") rows)) (chaos_of rows)

-- something stands there that only one run can have
abbrev pub is_of_one_run : List Row → Bool
is_of_one_run rows =
    has_flag (codes "journal") rows || has_flag (codes "resume") rows || is_some (first_of (codes "store") rows)
    || is_some (first_of (codes "chaos") rows) || is_some (first_of (codes "seed") rows)

-- so many runs
abbrev pub repeats : Option ℕ → Result Done Misfit
repeats None = Err WrongTimes
repeats (Some times) = Ok (Repeats times)

abbrev pub repeated_of : Text → List Row → Result Done Misfit
repeated_of times rows = if is_of_one_run rows then Err OneRun else repeats (times_of times)

-- several runs, where the words say how many; else a command over a store
abbrev pub timed : Option Text → Text → List Row → Result Done Misfit
timed None name rows = made_of name rows
timed (Some times) name rows = repeated_of times rows

abbrev pub run_or_made_of : Text → List Row → Result Done Misfit
run_or_made_of name rows = timed (first_of (codes "times") rows) name rows

-- how what happened is explained: as JSON before in words
abbrev pub telling_of : List Row → Telling
telling_of rows =
    if has_flag (codes "json") rows then tellings.Json
    else if has_flag (codes "explain") rows then tellings.Words
    else tellings.Nothing

-- something is done with the scenario
abbrev pub reads : List Row → Result Done Misfit → Result Asked Misfit
reads rows = told_as (λ done. Reads done (scenario_of rows) (telling_of rows))

-- what is done with a scenario by a command of this name
abbrev pub done_of : Text → List Row → Result Done Misfit
done_of name rows =
    if is_word name (codes "check") then Ok Checks
    else if is_word name (codes "complete") then Ok Completes
    else if is_word name (codes "migrate") then Ok (Carries (required_text (first_of (codes "store") rows)))
    else run_or_made_of name rows

-- ---- what shows what happens in a scenario

-- what is done with the first value, where there is one
abbrev pub and_then : {X Y : Type 0} → Result X Misfit → (X → Result Y Misfit) → Result Y Misfit
and_then (Ok x) f = f x
and_then (Err misfit) f = Err misfit

-- the number of a step that is read, or why there is none
abbrev pub step_read : Misfit → Option ℕ → Result ℕ Misfit
step_read misfit None = Err misfit
step_read misfit (Some number) = Ok number

-- the number of a step that stands there, and else this one
abbrev pub step_given : ℕ → Misfit → Option Text → Result ℕ Misfit
step_given default misfit None = Ok default
step_given default misfit (Some text) = step_read misfit (step_of text)

abbrev pub in_order : ℕ → ℕ → Result (ℕ × ℕ) Misfit
in_order from to = if nat_le from to then Ok (from, to) else Err NoSteps

-- the numbers of the first and of the last step that are chosen: all, where none is named
abbrev pub range_of : List Row → Result (ℕ × ℕ) Misfit
range_of rows =
    and_then (step_given 1 WrongFrom (first_of (codes "from") rows))
    (λ from. and_then (step_given LAST_STEP WrongTo (first_of (codes "to") rows)) (λ to. in_order from to))

-- the node that is read, or why there is none
abbrev pub node_read : Option NodeId → Result (Option NodeId) Misfit
node_read None = Err WrongNode
node_read (Some node) = Ok (Some node)

-- the node whose steps alone are told, if one is named
abbrev pub node_given : Option Text → Result (Option NodeId) Misfit
node_given None = Ok None
node_given (Some text) = node_read (node_named text)

-- in which form a trace is told
abbrev pub form_of : List Row → Form
form_of rows = if has_flag (codes "json") rows then forms.Json else forms.Words

abbrev pub traces : Form → ℕ × ℕ → Option NodeId → Done
traces form range node = Traces form (record { from = range.0; to = range.1; node = node })

abbrev pub trace_of : List Row → Result Done Misfit
trace_of rows =
    and_then (range_of rows)
    (λ range. told_as (traces (form_of rows) range) (node_given (first_of (codes "node") rows)))

-- a picture or a page
abbrev pub drawn_kind : List Row → Kind
drawn_kind rows = if has_flag (codes "html") rows then kinds.Page else kinds.Picture

abbrev pub draws : Kind → ℕ × ℕ → Done
draws kind range = Draws (record { kind = kind; from = range.0; to = range.1 })

abbrev pub draw_of : List Row → Result Done Misfit
draw_of rows = told_as (draws (drawn_kind rows)) (range_of rows)

-- something that shows what happens in a scenario: no explanation can be asked for
abbrev pub looks : List Row → Result Done Misfit → Result Asked Misfit
looks rows = told_as (λ done. Reads done (scenario_of rows) tellings.Nothing)

-- a shell's completion, where the shell is known
abbrev pub prompts : Option Shell → Result Asked Misfit
prompts None = Err NoShell
prompts (Some shell) = Ok (Prompts shell)

-- what a command and its own words ask, or why they ask nothing
abbrev pub asked_of : Text → List Row → Result Asked Misfit
asked_of name rows =
    if is_word name (codes "show")
    then Ok (Shows (required_text (first_of (codes "store") rows)) (has_flag (codes "json") rows))
    else if is_word name (codes "explain") then Ok (Explains (required_text (first_of (codes "meaning") rows)))
    else if is_word name (codes "completion") then prompts (shell_of (required_text (first_of (codes "shell") rows)))
    else if is_word name (codes "manual") then Ok Teaches
    else if is_word name (codes "trace") then looks rows (trace_of rows)
    else if is_word name (codes "draw") then looks rows (draw_of rows)
    else reads rows (done_of name rows)

abbrev pub asked_of_met : Option (Text × List Row) → Result Asked Misfit
asked_of_met None = Err NoCommand
asked_of_met (Some p) = asked_of p.0 p.1

-- what the words ask, by the rules of `clap`, or why they ask nothing
abbrev pub answer_of : List Text → Result Asked Misfit
answer_of words = asked_of_met (subcommand_of command_line_app words)

abbrev pub asked_by : List Text → Option Asked
asked_by words = ok_of (answer_of words)

-- nothing is said on standard error where what the words ask is done
abbrev pub are_silent : Terminals → List Text → Bool
are_silent terminals words = option_map_or (is_silent terminals) (asked_by words) true

-- the kinds of the error for words that do not fit together
abbrev pub kinds_of : Misfit → Kinds
kinds_of NoCommand = MissingSubcommand ∷ []
kinds_of NoFile = MissingRequiredArgument ∷ []
kinds_of NoShell = InvalidValue ∷ []
kinds_of WrongTimes = ValueValidation ∷ []
kinds_of WrongChaos = ValueValidation ∷ []
kinds_of WrongSeed = ValueValidation ∷ []
kinds_of NoSeed = MissingRequiredArgument ∷ []
kinds_of NoChaos = MissingRequiredArgument ∷ []
kinds_of OneRun = ArgumentConflict ∷ []
kinds_of WrongFrom = ValueValidation ∷ []
kinds_of WrongTo = ValueValidation ∷ []
kinds_of NoSteps = ValueValidation ∷ []
kinds_of WrongNode = ValueValidation ∷ []

abbrev pub misfit_kinds : Result Asked Misfit → Kinds
misfit_kinds (Ok asked) = []
misfit_kinds (Err misfit) = kinds_of misfit

-- what is wrong with the words: nothing, or the kinds that the error may have. What is wrong by the rules of `clap`
-- comes first
abbrev pub words_fault : List Text → Kinds
words_fault words = or_else (fault_of command_line_app words) (misfit_kinds (answer_of words))

-- the words ask for a text about the program
abbrev pub AskForHelp : List Text → Type 0
AskForHelp words = IsAmong DisplayHelp (words_fault words) ⊎ IsAmong DisplayVersion (words_fault words)

-- the words name no command and do not ask for help
abbrev pub AreWrong : List Text → Type 0
AreWrong words = (words_fault words ≢ []) × (AskForHelp words → ⊥)
