use Rattle.std.proofs.Common.{ap, ◌∙◌}
use Rattle.kt_tuple.specs.Reading.{int_of}
use Rattle.kt_tuple.proofs.Ints.{int_read, int_refused, int_no_text}
use Rattle.kt_tuple.proofs.reading.int_of.Goals as goal

pub returns-in-Ok-parse : goal.returns-in-Ok-parse
returns-in-Ok-parse c = int_read c.in-Ok.digits.now _ c.in-Ok-parse.ensures.value.0.0 c.in-Ok-parse.ensures.value.0.1 ∙ ap int_of c.in-Ok.ensures.cases.0

pub returns-in-Err-parse : goal.returns-in-Err-parse
returns-in-Err-parse c = int_refused c.in-Ok.digits.now c.in-Err-parse.ensures.value.0 ∙ ap int_of c.in-Ok.ensures.cases.0

pub returns-in-Err : goal.returns-in-Err
returns-in-Err c = int_no_text c.args.spelling.now c.in-Err.ensures.cases.0
