use Rattle.std.proofs.Common.{ℕ, List, Some, ap, ◌∙◌}
use Rattle.kt_trials.proofs.InMemory.{if_err, memory_fault, memory_report, on_ok}
use Rattle.kt_trials.proofs.times.run_once.Goals as goal

pub returns-in-Ok-clause-report : goal.returns-in-Ok-clause-report
returns-in-Ok-clause-report g c =
    let over = c.run_text_returning_store-answer in
    memory_report c.args.text.now c.into_inner.result.items c.new-store.result over.result.1 c.new-reader.result over.new.reader
    c.new-writer.result over.new.writer c.new-store.ensures c.new-reader.ensures.bytes
    (c.new-writer.ensures.bytes ∙ ap (λ (xs : List ℕ). Some xs) c.new.ensures.items) c.into_inner.ensures
    (on_ok over.result.0 _ c.in-Ok.is over.ensures.written)

pub returns-in-Err-clause-fault : goal.returns-in-Err-clause-fault
returns-in-Err-clause-fault g c =
    let over = c.run_text_returning_store-answer in
    memory_fault c.args.text.now c.new-store.result over.result.1 c.new-reader.result over.new.reader c.in-Err.fault c.told.result
    c.new-store.ensures c.new-reader.ensures.bytes c.told.ensures (if_err _ over.result.0 c.in-Err.fault c.in-Err.is over.ensures.fault)
