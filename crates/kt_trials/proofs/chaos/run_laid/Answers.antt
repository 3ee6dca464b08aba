use Rattle.kt_core.specs.Store.{store_value}
use Rattle.kt_trials.proofs.Behind.{behind_fault, behind_front, behind_written, of_lent}
use Rattle.kt_trials.proofs.InMemory.{if_err, on_err, on_ok}
use Rattle.kt_trials.proofs.chaos.run_laid.Goals as goal

pub returns-in-Ok-write_text-clause-written : goal.returns-in-Ok-write_text-clause-written
returns-in-Ok-write_text-clause-written g c =
    let value = store_value g.S.CkptStore in
    let over = c.run_text_returning_store-answer in
    behind_written c.args.start (value c.args.store) (value over.result.1) c.args.output c.args.text.now c.args.front.items c.into_inner-all.result.items
    c.deref.result.now c.new-source.result over.new.reader c.new-sink.result over.new.writer
    c.new-source.ensures.bytes c.new-sink.ensures.bytes c.into_inner-all.ensures c.deref.ensures.value (on_ok over.result.0 _ c.in-Ok.is over.ensures.written)
    c.args.writer.now c.write_text.new.writer (on_ok c.write_text.result _ c.in-Ok-write_text.is c.write_text.ensures.whole)

pub returns-in-Ok-clause-front : goal.returns-in-Ok-clause-front
returns-in-Ok-clause-front g c =
    let value = store_value g.S.CkptStore in
    let over = c.run_text_returning_store-answer in
    λ e.
    behind_front c.args.start (value c.args.store) (value over.result.1) c.args.output c.args.text.now c.args.front.items c.into_inner-all.result.items
    c.deref.result.now c.new-source.result over.new.reader c.new-sink.result over.new.writer
    c.new-source.ensures.bytes c.new-sink.ensures.bytes c.into_inner-all.ensures c.deref.ensures.value (on_ok over.result.0 _ c.in-Ok.is over.ensures.written)
    c.args.writer.now c.write_text.new.writer (on_err c.write_text.result _ c.in-Err-write_text.is c.write_text.ensures.front)

pub returns-in-Ok-clause-fault : goal.returns-in-Ok-clause-fault
returns-in-Ok-clause-fault g c =
    let value = store_value g.S.CkptStore in
    let over = c.run_text_returning_store-answer in
    behind_fault c.args.start (value c.args.store) (value over.result.1) c.args.output c.args.text.now c.args.front.items c.into_inner-all.result.items
    c.deref.result.now c.new-source.result over.new.reader c.new-sink.result over.new.writer
    c.new-source.ensures.bytes c.new-sink.ensures.bytes c.into_inner-all.ensures c.deref.ensures.value
    (on_ok over.result.0 _ c.in-Ok.is over.ensures.written) c.in-Err-write_text.fault c.in-Err-write_text.ensures.only

pub returns-clause-fault : goal.returns-clause-fault
returns-clause-fault g c =
    let value = store_value g.S.CkptStore in
    let over = c.run_text_returning_store-answer in
    of_lent c.args.start (value c.args.store) (value over.result.1) c.args.text.now c.new-source.result over.new.reader c.in-Err.fault c.told.result
    c.new-source.ensures.bytes (if_err _ over.result.0 c.in-Err.fault c.in-Err.is over.ensures.fault) c.told.ensures
