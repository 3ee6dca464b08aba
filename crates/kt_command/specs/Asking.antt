-- What a request asks a program to do.
-- Cited by request.rt; other crates.
use Rattle.std.specs.Prelude.{option_map}
use Rattle.kt_command.specs.declared.request.Request.{Request}
use Rattle.kt_command.specs.declared.request.Request.TheVariants as requests
use Rattle.kt_command.specs.declared.request.Task.{Task}
use Rattle.kt_command.specs.declared.request.Task.TheVariants as tasks
use Rattle.kt_command.specs.Command.{Asked, Carries, Checks, Completes, Done, Draws, Explains, Makes, Prompts, Reads}
use Rattle.kt_command.specs.Command.{Repeats, Shows, Teaches, Traces}

-- what is done with a scenario
abbrev pub task_of : Task → Done
task_of (tasks.Make command store) = Makes command (option_map (λ s. s.now) store)
task_of (tasks.Repeat times) = Repeats times
task_of (tasks.Migrate store) = Carries store.now
task_of tasks.Check = Checks
task_of (tasks.Trace form choice) = Traces form choice
task_of (tasks.Draw drawing) = Draws drawing
task_of tasks.Complete = Completes

abbrev pub asked : Request → Asked
asked (requests.Read task file telling) = Reads (task_of task) (option_map (λ s. s.now) file) telling
asked (requests.Show store is_json) = Shows store.now is_json
asked (requests.Explain word) = Explains word.now
asked (requests.Completion shell) = Prompts shell
asked requests.Manual = Teaches
