use Rattle.std.proofs.Common.{refl}
use Rattle.kt_core.specs.Store.{store_value}
use Rattle.kt_trials.specs.Chaos.{before_run}
use Rattle.kt_trials.proofs.Behind.{chaos_fault, chaos_front, chaos_written, undrawn_front}
use Rattle.kt_trials.proofs.Told.{unless_kept}
use Rattle.kt_trials.proofs.chaos.run_chaos_returning_store.Goals as goal

pub returns-in-Ok-clause-written : goal.returns-in-Ok-clause-written
returns-in-Ok-clause-written g c =
    let value = store_value g.S.CkptStore in
    chaos_written c.args.start (value c.args.store) (value c.run_laid.result.1) c.args.chaos c.args.reader.now c.laid_read.new.reader
    c.in-Ok.laid.text.items c.deref.result.now c.in-Ok.laid.remarks.items c.in-Ok.ensures.laid c.deref.ensures.value c.args.output c.args.writer.now
    c.run_laid.new.writer c.run_laid.result.0 c.run_laid.ensures.written

pub returns-in-Ok-clause-front : goal.returns-in-Ok-clause-front
returns-in-Ok-clause-front g c =
    let value = store_value g.S.CkptStore in
    λ e.
    chaos_front c.args.start (value c.args.store) (value c.run_laid.result.1) c.args.chaos c.args.reader.now c.laid_read.new.reader
    c.in-Ok.laid.text.items c.deref.result.now c.in-Ok.laid.remarks.items c.in-Ok.ensures.laid c.deref.ensures.value c.args.output c.args.writer.now
    c.run_laid.new.writer (c.run_laid.ensures.front e)

pub returns-in-Ok-clause-fault : goal.returns-in-Ok-clause-fault
returns-in-Ok-clause-fault g c =
    let value = store_value g.S.CkptStore in
    chaos_fault c.args.start (value c.args.store) (value c.run_laid.result.1) c.args.chaos c.args.reader.now c.laid_read.new.reader
    c.in-Ok.laid.text.items c.deref.result.now c.in-Ok.laid.remarks.items c.in-Ok.ensures.laid c.deref.ensures.value
    c.run_laid.result.0 c.run_laid.ensures.fault

pub returns-in-Err-clause-front : goal.returns-in-Err-clause-front
returns-in-Err-clause-front g c = λ e. undrawn_front c.args.reader.now c.laid_read.new.reader c.in-Err.fault _ c.in-Err.ensures.fault refl e

pub returns-in-Err-clause-fault : goal.returns-in-Err-clause-fault
returns-in-Err-clause-fault g c = before_run c.in-Err.ensures.fault refl

pub returns-in-Err-clause-nothing : goal.returns-in-Err-clause-nothing
returns-in-Err-clause-nothing g c = unless_kept c.in-Err.fault _ refl
