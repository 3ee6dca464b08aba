use Rattle.kt_trials.specs.Chaos.{in_reading}
use Rattle.kt_trials.proofs.Behind.{laid_out, undrawn_told}
use Rattle.kt_trials.proofs.chaos.laid_read.Goals as goal

pub returns-in-Ok-clause-laid : goal.returns-in-Ok-clause-laid
returns-in-Ok-clause-laid g c =
    laid_out c.args.chaos c.args.reader.now c.read_text.new.reader c.in-Ok.text.items c.deref.result.now (λ l. l.text.items) (λ l. l.remarks.items)
    c.laid_told.result c.in-Ok.ensures.read c.deref.ensures.value c.laid_told.ensures.laid

pub returns-in-Ok-clause-fault : goal.returns-in-Ok-clause-fault
returns-in-Ok-clause-fault g c =
    undrawn_told c.args.reader.now c.read_text.new.reader c.in-Ok.text.items c.deref.result.now c.laid_told.result c.in-Ok.ensures.read
    c.deref.ensures.value c.laid_told.ensures.fault

pub returns-in-Err-clause-fault : goal.returns-in-Err-clause-fault
returns-in-Err-clause-fault g c = in_reading c.in-Err.ensures.only
