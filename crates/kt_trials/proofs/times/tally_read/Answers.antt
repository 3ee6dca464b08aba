use Rattle.kt_trials.specs.auxiliary.Telling.{in_reading, in_text, of_room}
use Rattle.kt_trials.proofs.Told.{tallied, unwritten}
use Rattle.kt_trials.proofs.times.tally_read.Goals as goal

pub returns-in-Ok-tally_of-clause-tally : goal.returns-in-Ok-tally_of-clause-tally
returns-in-Ok-tally_of-clause-tally g c =
    tallied c.args.times c.args.reader.now c.read_text.new.reader c.in-Ok.text.items c.deref.result.now c.in-Ok-tally_of.tally.items
    c.in-Ok-reports_of.reports.items c.deref-2.result.now c.in-Ok.ensures.read c.deref.ensures.value c.in-Ok-reports_of.ensures.each
    c.in-Ok-reports_of.ensures.count c.deref-2.ensures.value c.in-Ok-tally_of.ensures

pub returns-in-Err-clause-fault : goal.returns-in-Err-clause-fault
returns-in-Err-clause-fault g c = in_reading c.in-Err.ensures.only

pub returns-in-Err-reports_of-clause-fault : goal.returns-in-Err-reports_of-clause-fault
returns-in-Err-reports_of-clause-fault g c =
    unwritten c.args.reader.now c.read_text.new.reader c.in-Ok.text.items c.deref.result.now c.in-Err-reports_of.fault c.in-Ok.ensures.read
    c.deref.ensures.value c.in-Err-reports_of.ensures.fault

pub returns-clause-fault : goal.returns-clause-fault
returns-clause-fault g c = in_text c.in-Ok.text.items c.in-Ok.ensures.read of_room
