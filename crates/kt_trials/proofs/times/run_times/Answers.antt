use Rattle.kt_trials.proofs.InMemory.{on_ok}
use Rattle.kt_trials.proofs.Told.{is_written, told_fault, written_fault}
use Rattle.kt_trials.proofs.times.run_times.Goals as goal

pub returns-in-Ok-write_text-clause-written : goal.returns-in-Ok-write_text-clause-written
returns-in-Ok-write_text-clause-written g c =
    is_written c.args.times c.args.reader.now c.tally_read.new.reader c.args.writer.now c.write_text.new.writer c.in-Ok.tally.items c.deref.result.now
    c.in-Ok.ensures.tally c.deref.ensures.value (on_ok c.write_text.result _ c.in-Ok-write_text.is c.write_text.ensures.whole)

pub returns-in-Ok-clause-fault : goal.returns-in-Ok-clause-fault
returns-in-Ok-clause-fault g c =
    written_fault c.args.times c.args.reader.now c.tally_read.new.reader c.in-Ok.tally.items c.in-Err-write_text.fault c.in-Ok.ensures.tally
    c.in-Err-write_text.ensures.only

pub returns-clause-fault : goal.returns-clause-fault
returns-clause-fault g c = told_fault c.args.times c.args.reader.now c.tally_read.new.reader c.in-Err.fault c.in-Err.ensures.fault
