use Rattle.std.proofs.Common.{subst, sym, ◌∙◌}
use Rattle.kt_core.specs.Store.{StoreValue, store_value}
use Rattle.kt_run.specs.Run.{IsTextFault}
use Rattle.kt_run.specs.declared.fault.RunTextFault.TheVariants.{Run}
use Rattle.kt_run.proofs.Outcomes.{run_of, stopped_of}
use Rattle.kt_run.proofs.running.run_told.Goals as goal

pub returns-in-Ok-run_threads_returning_left-clause-run : goal.returns-in-Ok-run_threads_returning_left-clause-run
returns-in-Ok-run_threads_returning_left-clause-run g c =
    let ran = c.in-Ok-run_threads_returning_left.ensures in
    run_of _ _ _ _ _ _ _ _ c.in-Ok.ensures.spelled (sym c.into_faults.ensures ∙ c.unwrap-faults.ensures) ran.replays ran.finished

pub returns-in-Err-run_threads_returning_left-clause-fault : goal.returns-in-Err-run_threads_returning_left-clause-fault
returns-in-Err-run_threads_returning_left-clause-fault g c =
    let ended = c.in-Err-run_threads_returning_left in
    let was = store_value g.S.CkptStore c.args.store in
    let Told : StoreValue → Type 0 = λ left. IsTextFault c.args.start was left c.args.text.now (Run ended.fault) in
    subst (IsTextFault c.args.start was (store_value g.S.CkptStore c.into_store.result) c.args.text.now) (sym c.from-in-Err-run_threads_returning_left.ensures)
    (subst Told (sym c.into_store.ensures) (stopped_of c.args.start was _ c.args.text.now _ _ ended.fault
    c.in-Ok.ensures.spelled (sym c.into_faults.ensures ∙ c.unwrap-faults.ensures) ended.ensures.stopped))
