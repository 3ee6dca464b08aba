-- What some words ask, and which faults some have, as the rules of `clap` compute it.
-- Cited by no other file of crates/.
use Rattle.std.specs.Prelude.{◌≡◌, true, false, [], ◌∷◌, None, Some, codes, refl}
use Rattle.clap.specs.declared.error.kind.ErrorKind.TheVariants.{ArgumentConflict, DisplayHelp, DisplayVersion}
use Rattle.clap.specs.declared.error.kind.ErrorKind.TheVariants.{InvalidSubcommand, InvalidValue}
use Rattle.clap.specs.declared.error.kind.ErrorKind.TheVariants.{MissingRequiredArgument, MissingSubcommand}
use Rattle.clap.specs.declared.error.kind.ErrorKind.TheVariants.{UnknownArgument, ValueValidation}
use Rattle.clap.proofs.OnLiterals.{clap_on_literals}
use Rattle.kt_run.specs.declared.running.Output.TheVariants as outputs
use Rattle.kt_command.specs.declared.command.Command.TheVariants.{Replay, Run, RunChaos}
use Rattle.kt_command.specs.declared.request.Telling.TheVariants as tellings
use Rattle.kt_command.specs.Command.{Carries, Checks, Completes, Draws, Explains, Makes, Open, Prompts, Reads, Repeats}
use Rattle.kt_command.specs.Command.{Resume, Shows, Teaches, Traces}
use Rattle.kt_look.specs.declared.drawing.Kind.TheVariants as kinds
use Rattle.kt_look.specs.declared.telling.Form.TheVariants as forms
use Rattle.kt_tuple.specs.declared.node.NodeId.TheVariants.{Shard}
use Rattle.kt_words.specs.declared.shell.Shell.TheVariants.{Fish}
use Rattle.linda_kt.specs.declared.looking.TheConstants.{LAST_STEP}
use Rattle.linda_kt.specs.Words.{asked_by, words_fault}

-- `replay` has no fault and names the command, and no file
pub replay_passes : (words_fault (codes "replay" ∷ []) ≡ [])
    × (asked_by (codes "replay" ∷ []) ≡ Some (Reads (Makes (Replay Open) None) None tellings.Nothing))
unfolding clap_on_literals
replay_passes = (refl, refl)

-- a file is named behind `--store`, as a word of its own or behind `=`
pub store_passes : (words_fault (codes "replay" ∷ codes "--store" ∷ codes "a.db" ∷ []) ≡ [])
    × (asked_by (codes "replay" ∷ codes "--store" ∷ codes "a.db" ∷ [])
    ≡ Some (Reads (Makes (Replay Open) (Some (codes "a.db"))) None tellings.Nothing))
    × (words_fault (codes "replay" ∷ codes "--store=a.db" ∷ []) ≡ [])
    × (asked_by (codes "replay" ∷ codes "--store=a.db" ∷ [])
    ≡ Some (Reads (Makes (Replay Open) (Some (codes "a.db"))) None tellings.Nothing))
unfolding clap_on_literals
store_passes = (refl, refl, refl, refl)

-- `run` has no fault either, with its flag or without it, and with a file
pub run_passes : (words_fault (codes "run" ∷ []) ≡ [])
    × (asked_by (codes "run" ∷ []) ≡ Some (Reads (Makes (Run Open outputs.Report) None) None tellings.Nothing))
    × (words_fault (codes "run" ∷ codes "--journal" ∷ []) ≡ [])
    × (asked_by (codes "run" ∷ codes "--journal" ∷ [])
    ≡ Some (Reads (Makes (Run Open outputs.Journal) None) None tellings.Nothing))
    × (words_fault (codes "run" ∷ codes "--store" ∷ codes "a.db" ∷ codes "--journal" ∷ []) ≡ [])
    × (asked_by (codes "run" ∷ codes "--store" ∷ codes "a.db" ∷ codes "--journal" ∷ [])
    ≡ Some (Reads (Makes (Run Open outputs.Journal) (Some (codes "a.db"))) None tellings.Nothing))
unfolding clap_on_literals
run_passes = (refl, refl, refl, refl, refl, refl)

-- `resume` has no fault with its file, which it names, and wants it
pub resume_passes : (words_fault (codes "resume" ∷ codes "--store" ∷ codes "a.db" ∷ []) ≡ [])
    × (asked_by (codes "resume" ∷ codes "--store" ∷ codes "a.db" ∷ [])
    ≡ Some (Reads (Makes (Replay Resume) (Some (codes "a.db"))) None tellings.Nothing))
unfolding clap_on_literals
resume_passes = (refl, refl)

pub resume_wants_a_file : words_fault (codes "resume" ∷ []) ≡ MissingRequiredArgument ∷ []
unfolding clap_on_literals
resume_wants_a_file = refl

-- so does a run that goes on from a file, with its journal or without
pub resumed_run_passes : (words_fault (codes "run" ∷ codes "--resume" ∷ codes "--store" ∷ codes "a.db" ∷ []) ≡ [])
    × (asked_by (codes "run" ∷ codes "--resume" ∷ codes "--store" ∷ codes "a.db" ∷ [])
    ≡ Some (Reads (Makes (Run Resume outputs.Report) (Some (codes "a.db"))) None tellings.Nothing))
    × (asked_by (codes "run" ∷ codes "--store" ∷ codes "a.db" ∷ codes "--journal" ∷ codes "--resume" ∷ [])
    ≡ Some (Reads (Makes (Run Resume outputs.Journal) (Some (codes "a.db"))) None tellings.Nothing))
unfolding clap_on_literals
resumed_run_passes = (refl, refl, refl)

pub resumed_run_wants_a_file : words_fault (codes "run" ∷ codes "--resume" ∷ []) ≡ MissingRequiredArgument ∷ []
unfolding clap_on_literals
resumed_run_wants_a_file = refl

-- a run has no fault that is to be made several times, of which the words say how many, from 1 to 10000
pub times_passes : (words_fault (codes "run" ∷ codes "--times" ∷ codes "20" ∷ []) ≡ [])
    × (asked_by (codes "run" ∷ codes "--times" ∷ codes "20" ∷ []) ≡ Some (Reads (Repeats 20) None tellings.Nothing))
    × (asked_by (codes "run" ∷ codes "--times=10000" ∷ codes "a.scn" ∷ codes "--explain" ∷ [])
    ≡ Some (Reads (Repeats 10000) (Some (codes "a.scn")) tellings.Words))
unfolding clap_on_literals
times_passes = (refl, refl, refl)

pub times_fails : (words_fault (codes "run" ∷ codes "--times" ∷ codes "0" ∷ []) ≡ ValueValidation ∷ [])
    × (words_fault (codes "run" ∷ codes "--times" ∷ codes "10001" ∷ []) ≡ ValueValidation ∷ [])
    × (words_fault (codes "run" ∷ codes "--times" ∷ codes "x" ∷ []) ≡ ValueValidation ∷ [])
    × (words_fault (codes "run" ∷ codes "--times" ∷ codes "" ∷ []) ≡ ValueValidation ∷ [])
    × (words_fault (codes "run" ∷ codes "--times" ∷ codes "20" ∷ codes "--journal" ∷ []) ≡ ArgumentConflict ∷ [])
    × (words_fault (codes "replay" ∷ codes "--times" ∷ codes "20" ∷ []) ≡ UnknownArgument ∷ [])
unfolding clap_on_literals
times_fails = (refl, refl, refl, refl, refl, refl)

-- nor has one with random fault lines, where the words say how many, from 1 to 10000, and by which seed
pub chaos_passes : (words_fault (codes "run" ∷ codes "--chaos" ∷ codes "3" ∷ codes "--seed" ∷ codes "7" ∷ []) ≡ [])
    × (asked_by (codes "run" ∷ codes "--chaos" ∷ codes "3" ∷ codes "--seed" ∷ codes "7" ∷ [])
    ≡ Some (Reads (Makes (RunChaos Open outputs.Report (record { count = 3; seed = 7 })) None) None tellings.Nothing))
    × (asked_by (codes "run" ∷ codes "--seed=0" ∷ codes "--chaos=1" ∷ codes "--store=a.db" ∷ codes "--resume"
    ∷ codes "--journal" ∷ [])
    ≡ Some (Reads (Makes (RunChaos Resume outputs.Journal (record { count = 1; seed = 0 })) (Some (codes "a.db"))) None
    tellings.Nothing))
unfolding clap_on_literals
chaos_passes = (refl, refl, refl)

pub chaos_fails : (words_fault (codes "run" ∷ codes "--chaos" ∷ codes "3" ∷ []) ≡ MissingRequiredArgument ∷ [])
    × (words_fault (codes "run" ∷ codes "--seed" ∷ codes "7" ∷ []) ≡ MissingRequiredArgument ∷ [])
    × (words_fault (codes "run" ∷ codes "--chaos=0" ∷ codes "--seed=7" ∷ []) ≡ ValueValidation ∷ [])
    × (words_fault (codes "run" ∷ codes "--chaos=3" ∷ codes "--seed=x" ∷ []) ≡ ValueValidation ∷ [])
    × (words_fault (codes "run" ∷ codes "--chaos=3" ∷ codes "--seed=18446744073709551616" ∷ []) ≡ ValueValidation ∷ [])
    × (words_fault (codes "run" ∷ codes "--chaos=3" ∷ codes "--seed=7" ∷ codes "--times=2" ∷ [])
    ≡ ArgumentConflict ∷ [])
unfolding clap_on_literals
chaos_fails = (refl, refl, refl, refl, refl, refl)

-- a command has no fault with the flag `--explain` or `--json`, and asks then to be explained so
pub explain_passes : (words_fault (codes "replay" ∷ codes "--explain" ∷ []) ≡ [])
    × (asked_by (codes "replay" ∷ codes "--explain" ∷ []) ≡ Some (Reads (Makes (Replay Open) None) None tellings.Words))
    × (asked_by (codes "run" ∷ codes "--explain" ∷ codes "--journal" ∷ [])
    ≡ Some (Reads (Makes (Run Open outputs.Journal) None) None tellings.Words))
    × (asked_by (codes "resume" ∷ codes "--store" ∷ codes "a.db" ∷ codes "--explain" ∷ [])
    ≡ Some (Reads (Makes (Replay Resume) (Some (codes "a.db"))) None tellings.Words))
    × (asked_by (codes "replay" ∷ codes "--json" ∷ codes "--explain" ∷ [])
    ≡ Some (Reads (Makes (Replay Open) None) None tellings.Json))
unfolding clap_on_literals
explain_passes = (refl, refl, refl, refl, refl)

-- `migrate` has no fault with its file, which it names, and wants it
pub migrate_passes : (words_fault (codes "migrate" ∷ codes "--store" ∷ codes "a.db" ∷ []) ≡ [])
    × (asked_by (codes "migrate" ∷ codes "--store" ∷ codes "a.db" ∷ [])
    ≡ Some (Reads (Carries (codes "a.db")) None tellings.Nothing))
unfolding clap_on_literals
migrate_passes = (refl, refl)

pub migrate_wants_a_file : words_fault (codes "migrate" ∷ []) ≡ MissingRequiredArgument ∷ []
unfolding clap_on_literals
migrate_wants_a_file = refl

-- a scenario is named before the options or behind them; `-` is standard input
pub scenario_passes : (words_fault (codes "replay" ∷ codes "a.scn" ∷ []) ≡ [])
    × (asked_by (codes "replay" ∷ codes "a.scn" ∷ [])
    ≡ Some (Reads (Makes (Replay Open) None) (Some (codes "a.scn")) tellings.Nothing))
    × (asked_by (codes "run" ∷ codes "--journal" ∷ codes "a.scn" ∷ [])
    ≡ Some (Reads (Makes (Run Open outputs.Journal) None) (Some (codes "a.scn")) tellings.Nothing))
    × (words_fault (codes "replay" ∷ codes "-" ∷ []) ≡ [])
    × (asked_by (codes "replay" ∷ codes "-" ∷ []) ≡ Some (Reads (Makes (Replay Open) None) None tellings.Nothing))
unfolding clap_on_literals
scenario_passes = (refl, refl, refl, refl, refl)

-- `check` reads a text alone
pub check_passes : (words_fault (codes "check" ∷ []) ≡ [])
    × (asked_by (codes "check" ∷ []) ≡ Some (Reads Checks None tellings.Nothing))
    × (asked_by (codes "check" ∷ codes "a.scn" ∷ []) ≡ Some (Reads Checks (Some (codes "a.scn")) tellings.Nothing))
unfolding clap_on_literals
check_passes = (refl, refl, refl)

-- `explain` has no fault with its word, which it names, and wants it
pub meaning_passes : (words_fault (codes "explain" ∷ codes "3" ∷ []) ≡ [])
    × (asked_by (codes "explain" ∷ codes "3" ∷ []) ≡ Some (Explains (codes "3")))
    × (words_fault (codes "explain" ∷ []) ≡ MissingRequiredArgument ∷ [])
unfolding clap_on_literals
meaning_passes = (refl, refl, refl)

-- so do `complete`, which reads a scenario; `show`, with its file; `completion`, with a shell; and `manual`
pub complete_passes : (words_fault (codes "complete" ∷ []) ≡ [])
    × (asked_by (codes "complete" ∷ codes "a.scn" ∷ [])
    ≡ Some (Reads Completes (Some (codes "a.scn")) tellings.Nothing))
unfolding clap_on_literals
complete_passes = (refl, refl)

pub show_passes : (words_fault (codes "show" ∷ codes "a.db" ∷ []) ≡ [])
    × (asked_by (codes "show" ∷ codes "a.db" ∷ []) ≡ Some (Shows (codes "a.db") false))
    × (asked_by (codes "show" ∷ codes "--json" ∷ codes "a.db" ∷ []) ≡ Some (Shows (codes "a.db") true))
    × (words_fault (codes "show" ∷ []) ≡ MissingRequiredArgument ∷ [])
unfolding clap_on_literals
show_passes = (refl, refl, refl, refl)

pub completion_passes : (asked_by (codes "completion" ∷ codes "fish" ∷ []) ≡ Some (Prompts Fish))
    × (words_fault (codes "completion" ∷ codes "sh" ∷ []) ≡ InvalidValue ∷ [])
    × (words_fault (codes "completion" ∷ []) ≡ MissingRequiredArgument ∷ [])
unfolding clap_on_literals
completion_passes = (refl, refl, refl)

pub manual_passes : (words_fault (codes "manual" ∷ []) ≡ []) × (asked_by (codes "manual" ∷ []) ≡ Some Teaches)
unfolding clap_on_literals
manual_passes = (refl, refl)

-- nor has `migrate` the flag
pub migrate_has_no_flag : words_fault (codes "migrate" ∷ codes "--store" ∷ codes "a.db" ∷ codes "--journal" ∷ [])
    ≡ UnknownArgument ∷ []
unfolding clap_on_literals
migrate_has_no_flag = refl

-- `replay` has no flag
pub flag_fails : words_fault (codes "replay" ∷ codes "--journal" ∷ []) ≡ UnknownArgument ∷ []
unfolding clap_on_literals
flag_fails = refl

-- `--store` wants its file
pub store_wants_a_file : words_fault (codes "replay" ∷ codes "--store" ∷ []) ≡ InvalidValue ∷ []
unfolding clap_on_literals
store_wants_a_file = refl

-- without a word a command is missing
pub nothing_fails : words_fault [] ≡ MissingSubcommand ∷ []
unfolding clap_on_literals
nothing_fails = refl

-- another word is no command
pub other_word_fails : words_fault (codes "walk" ∷ []) ≡ UnknownArgument ∷ InvalidSubcommand ∷ []
unfolding clap_on_literals
other_word_fails = refl

-- `--help` asks for help, before a command and behind it. So does `help`, unless what stands behind it is no command
pub help_asks : (words_fault (codes "--help" ∷ []) ≡ DisplayHelp ∷ [])
    × (words_fault (codes "replay" ∷ codes "--help" ∷ []) ≡ DisplayHelp ∷ [])
    × (words_fault (codes "help" ∷ []) ≡ DisplayHelp ∷ InvalidSubcommand ∷ [])
unfolding clap_on_literals
help_asks = (refl, refl, refl)

-- `--version` asks for the version
pub version_asks : words_fault (codes "--version" ∷ []) ≡ DisplayVersion ∷ []
unfolding clap_on_literals
version_asks = refl

-- `trace` tells all steps, or those that are chosen, in words or as JSON
pub trace_passes : (words_fault (codes "trace" ∷ []) ≡ [])
    × (asked_by (codes "trace" ∷ [])
    ≡ Some (Reads (Traces forms.Words (record { from = 1; to = LAST_STEP; node = None })) None tellings.Nothing))
    × (asked_by (codes "trace" ∷ codes "a.scn" ∷ codes "--json" ∷ codes "--from=3" ∷ codes "--to" ∷ codes "9"
    ∷ codes "--node" ∷ codes "s2" ∷ [])
    ≡ Some (Reads (Traces forms.Json (record { from = 3; to = 9; node = Some (Shard 2) })) (Some (codes "a.scn"))
    tellings.Nothing))
unfolding clap_on_literals
trace_passes = (refl, refl, refl)

pub trace_fails : (words_fault (codes "trace" ∷ codes "--from=0" ∷ []) ≡ ValueValidation ∷ [])
    × (words_fault (codes "trace" ∷ codes "--to=x" ∷ []) ≡ ValueValidation ∷ [])
    × (words_fault (codes "trace" ∷ codes "--from=9" ∷ codes "--to=3" ∷ []) ≡ ValueValidation ∷ [])
    × (words_fault (codes "trace" ∷ codes "--node=w17" ∷ []) ≡ ValueValidation ∷ [])
    × (words_fault (codes "trace" ∷ codes "--node=w01" ∷ []) ≡ ValueValidation ∷ [])
    × (words_fault (codes "trace" ∷ codes "--html" ∷ []) ≡ UnknownArgument ∷ [])
unfolding clap_on_literals
trace_fails = (refl, refl, refl, refl, refl, refl)

-- `draw` draws a picture, or a page with its flag
pub draw_passes : (words_fault (codes "draw" ∷ []) ≡ [])
    × (asked_by (codes "draw" ∷ [])
    ≡ Some (Reads (Draws (record { kind = kinds.Picture; from = 1; to = LAST_STEP })) None tellings.Nothing))
    × (asked_by (codes "draw" ∷ codes "--html" ∷ codes "--from=3" ∷ codes "--to=9" ∷ codes "a.scn" ∷ [])
    ≡ Some (Reads (Draws (record { kind = kinds.Page; from = 3; to = 9 })) (Some (codes "a.scn")) tellings.Nothing))
    × (words_fault (codes "draw" ∷ codes "--node=w1" ∷ []) ≡ UnknownArgument ∷ [])
unfolding clap_on_literals
draw_passes = (refl, refl, refl, refl)
