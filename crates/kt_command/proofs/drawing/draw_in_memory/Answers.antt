use Rattle.kt_command.proofs.drawing.draw_in_memory.Goals as goal

pub returns-clause-told : goal.returns-clause-told
returns-clause-told g c =
    record { answer = c.write_drawing-answer.result; ends = c.write_drawing-answer.ensures.ends; status = c.end_drawing.ensures.status }
