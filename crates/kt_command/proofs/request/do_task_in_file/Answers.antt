use Rattle.std.proofs.Common.{Ok, Err, refl}
use Rattle.kt_command.proofs.request.do_task_in_file.Goals as goal

pub returns-in-Ok-clause-told : goal.returns-in-Ok-clause-told
returns-in-Ok-clause-told g c =
    let said = c.new-reader.ensures in
    record {
      answer = Ok c.in-Ok.text;
      given = c.in-Ok.ensures;
      ends = record {
        before = c.new-reader.result;
        after = c.do_task.new.reader;
        bytes = said.bytes;
        calls = said.calls;
        outcome = said.outcome;
        ends = c.do_task.ensures.told;
      };
    }

pub returns-in-Err-clause-told : goal.returns-in-Err-clause-told
returns-in-Err-clause-told g c = record { answer = Err c.in-Err.why; given = c.in-Err.ensures; ends = (refl, refl) }
