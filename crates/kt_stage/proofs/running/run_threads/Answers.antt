use Rattle.std.proofs.Common.{sym, subst}
use Rattle.kt_core.specs.Store.{StoreValue, store_value}
use Rattle.kt_core.specs.declared.start.Start.TheVariants as starts
use Rattle.kt_stage.specs.Running.{IsStopped}
use Rattle.kt_stage.proofs.running.run_threads.Goals as goal

pub returns-in-Err-clause-stopped : goal.returns-in-Err-clause-stopped
returns-in-Err-clause-stopped g c =
    let value = store_value g.S.CkptStore in
    let Stopped : StoreValue → Type 0 = λ left. IsStopped starts.Open (value c.args.store) left c.args.scene c.args.faults c.in-Err.fault in
    (c.into_store.result, subst Stopped (sym c.into_store.ensures) c.in-Err.ensures.stopped)
