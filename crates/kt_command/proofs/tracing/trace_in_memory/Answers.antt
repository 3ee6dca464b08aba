use Rattle.kt_command.proofs.tracing.trace_in_memory.Goals as goal

pub returns-clause-told : goal.returns-clause-told
returns-clause-told g c =
    record { answer = c.write_trace-answer.result; ends = c.write_trace-answer.ensures.ends; status = c.end_replay.ensures.status }
