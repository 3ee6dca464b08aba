-- The exit status of what a command answers.
-- Cited by Carryings, Checkings, Completions, Printings, Statuses, specs/Traced, status.rt.
use Rattle.std.specs.Prelude.{ℕ, Result, Ok, Err}
use Rattle.kt_scene.specs.declared.fault.ReplayFault.{ReplayFault}
use Rattle.kt_run.specs.declared.fault.RunTextFault.{RunTextFault}
use Rattle.kt_command.specs.Status.{status_of, run_text_status}

-- the exit status that tells of what a replay answers
abbrev pub answer_status : {X : Type 0} → Result X ReplayFault → ℕ
answer_status (Ok done) = 0
answer_status (Err fault) = status_of fault

-- the exit status that tells of what a run answers
abbrev pub run_answer_status : {X : Type 0} → Result X RunTextFault → ℕ
run_answer_status (Ok done) = 0
run_answer_status (Err fault) = run_text_status fault
