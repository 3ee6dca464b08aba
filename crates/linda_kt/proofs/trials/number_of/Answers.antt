use Rattle.linda_kt.proofs.Numbers.{not_parsed, parsed}
use Rattle.linda_kt.proofs.trials.number_of.Goals as goal

pub returns-in-Ok : goal.returns-in-Ok
returns-in-Ok c =
    let read = c.in-Ok.ensures.value.0 in
    parsed c.args.text.now c.in-Ok.number read.0.0 read.0.1 read.1

pub returns-in-Err : goal.returns-in-Err
returns-in-Err c = not_parsed c.args.text.now c.in-Err.ensures.value.0
