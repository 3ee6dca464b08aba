use Rattle.std.proofs.Common.{Err, refl}
use Rattle.kt_core.specs.Store.{store_value}
use Rattle.kt_scene.specs.Stream.{IsReportFault}
use Rattle.kt_run.specs.declared.fault.RunTextFault.TheVariants.{Text}
use Rattle.kt_run.specs.Run.{before_writing}
use Rattle.kt_run.proofs.Outcomes.{run_written, run_front, fault_in_writing, never_front, on_ok, if_err, err_named}
use Rattle.kt_run.proofs.running.run_text_returning_store.Goals as goal

pub returns-in-Ok-answer-clause-written : goal.returns-in-Ok-answer-clause-written
returns-in-Ok-answer-clause-written g c =
    let value = store_value g.S.CkptStore in
    let wrote = c.write_run-answer in
    run_written c.args.start (value c.args.store) (value wrote.result.1) _ _ c.in-Ok.journal.world c.in-Ok.journal.steps c.in-Ok.ensures.run
    wrote.ensures.honest wrote.ensures.content c.in-Ok.ensures.later c.args.output _ _
    (on_ok wrote.result.0 _ c.in-Ok-answer.is wrote.ensures.counts) (on_ok wrote.result.0 _ c.in-Ok-answer.is wrote.ensures.written)

pub returns-in-Err-answer-clause-front : goal.returns-in-Err-answer-clause-front
returns-in-Err-answer-clause-front g c =
    let value = store_value g.S.CkptStore in
    let wrote = c.write_run-answer in
    λ e.
    let is = err_named wrote.result.0 (Err (Text c.in-Err-answer.fault)) c.in-Err-answer.fault _ c.in-Err-answer.is refl e in
    run_front c.args.start (value c.args.store) (value wrote.result.1) _ _ c.in-Ok.journal.world c.in-Ok.journal.steps c.in-Ok.ensures.run
    wrote.ensures.honest wrote.ensures.content c.in-Ok.ensures.later c.args.output _ _
    (if_err (IsReportFault c.in-Ok.journal.world.counts (value wrote.result.1).counts (value wrote.result.1).is_honest) wrote.result.0 _ is wrote.ensures.only)
    (wrote.ensures.front is)

pub returns-in-Err-answer-clause-fault : goal.returns-in-Err-answer-clause-fault
returns-in-Err-answer-clause-fault g c =
    let value = store_value g.S.CkptStore in
    let wrote = c.write_run-answer in
    fault_in_writing c.args.start (value c.args.store) (value wrote.result.1) _ _ c.in-Ok.journal.world c.in-Ok.journal.steps c.in-Ok.ensures.run
    wrote.ensures.honest wrote.ensures.content c.in-Ok.ensures.later c.in-Err-answer.fault
    (if_err (IsReportFault c.in-Ok.journal.world.counts (value wrote.result.1).counts (value wrote.result.1).is_honest) wrote.result.0
    c.in-Err-answer.fault c.in-Err-answer.is wrote.ensures.only)

pub returns-in-Err-clause-front : goal.returns-in-Err-clause-front
returns-in-Err-clause-front g c = λ e. never_front _ _ _ _ _ (Err c.in-Err.fault) c.in-Err.fault c.in-Err.ensures.fault refl e

pub returns-in-Err-clause-fault : goal.returns-in-Err-clause-fault
returns-in-Err-clause-fault g c = before_writing c.in-Err.ensures.fault
