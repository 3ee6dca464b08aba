use Rattle.kt_command.proofs.Statuses.{run_told}
use Rattle.kt_command.proofs.repeating.repeat_in_memory.Goals as goal

pub returns-clause-told : goal.returns-clause-told
returns-clause-told g c =
    run_told _ _ _ _ _ c.run_times-answer.result c.end_run.result c.end_run.ensures.status c.run_times-answer.ensures.written
    c.run_times-answer.ensures.front c.run_times-answer.ensures.fault c.run_times-answer.ensures.nothing
