-- The names of the commands, and the words of a process.
-- Cited by carries.rt, command.rt, opens.rt, shows.rt, specs/Asking, specs/Carried, specs/Opened, specs/Shown,
--   specs/Silence, texts.rt, words.rt, `words::words_behind`; other crates.
use Rattle.std.specs.Prelude.{ℕ, Bool, true, false, if◌then◌else◌, nat_eq, List, Option, None, Some, codes, map, String}
use Rattle.std.specs.Prelude.{string_bytes, drop}
use Rattle.std.specs.Borrow.{Bor}
use Rattle.std.specs.Global.{Global}
use Rattle.std.specs.Cmp.Lexicographic.{pointwise}
use Rattle.kt_run.specs.declared.running.Output.{Output}
use Rattle.kt_run.specs.declared.running.Output.TheVariants as outputs
use Rattle.kt_core.specs.declared.start.Start.{Start}
pub use Rattle.kt_core.specs.declared.start.Start.TheVariants.{Open, Resume}
use Rattle.kt_words.specs.declared.shell.Shell.{Shell}
use Rattle.kt_command.specs.declared.command.Command.{Command}
use Rattle.kt_command.specs.declared.request.Telling.{Telling}
use Rattle.kt_command.specs.declared.command.Command.TheVariants.{Replay, Run, RunChaos}
use Rattle.kt_chaos.specs.declared.drawing.Chaos.{Chaos}
use Rattle.kt_tell.specs.declared.choice.Choice.{Choice}
use Rattle.kt_look.specs.declared.telling.Form.{Form}
use Rattle.kt_look.specs.declared.drawing.Drawing.{Drawing}

-- the bytes of a word, or of a path
abbrev pub Text : Type 0
Text = List ℕ

-- the text is this word
abbrev pub is_word : Text → Text → Bool
is_word text word = pointwise nat_eq text word

-- how the world of a run begins, with the flag that it is resumed or without it
abbrev pub start_of : Bool → Start
start_of true = Resume
start_of false = Open

-- what is written of a run, with the flag for its journal or without it
abbrev pub output_of : Bool → Output
output_of true = outputs.Journal
output_of false = outputs.Report

-- the command that a word asks for, with each of the flags behind it or without
abbrev pub command_of : Text → (is_resumed has_journal : Bool) → Option Command
command_of word is_resumed has_journal =
    if is_word word (codes "replay") then Some (Replay Open)
    else if is_word word (codes "resume") then Some (Replay Resume)
    else if is_word word (codes "run") then Some (Run (start_of is_resumed) (output_of has_journal))
    else None

-- the command with these random fault lines: a run has them, and no other command
abbrev pub with_chaos : Option Chaos → Command → Command
with_chaos (Some chaos) (Run start output) = RunChaos start output chaos
with_chaos chaos command = command

-- what is done with a scenario: a command over the store in a file or in memory; so many runs, each over a store of its
-- own in memory; the store in a file is carried over; it is read, and nothing else; it is completed; what is chosen of
-- its trace is told, in this form; or it is drawn
pub data Done : Type 0 where
  Makes : Command → Option Text → Done
  Repeats : (times : ℕ) → Done
  Carries : Text → Done
  Checks : Done
  Completes : Done
  Traces : Form → Choice → Done
  Draws : Drawing → Done

-- what a program is asked to do: something with the scenario in a file or on standard input, explained so; to say
-- what a store in a file holds, in words or as JSON; to say what a word means; to write the words of a shell's
-- completion, or the manual's page
pub data Asked : Type 0 where
  Reads : Done → (file : Option Text) → Telling → Asked
  Shows : (path : Text) → (is_json : Bool) → Asked
  Explains : (word : Text) → Asked
  Prompts : Shell → Asked
  Teaches : Asked

-- the texts behind references
abbrev pub texts : List (Bor Text) → List Text
texts = map (λ w. w.now)

-- the words behind the first text, which is the program's name
abbrev pub words_behind : List (String Global) → List Text
words_behind arguments = map string_bytes (drop 1 arguments)
