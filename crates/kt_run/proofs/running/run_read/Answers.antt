use Rattle.std.proofs.Common.{refl}
use Rattle.kt_core.specs.Store.{store_value}
use Rattle.kt_run.specs.Run.{of_reading}
use Rattle.kt_stage.specs.Journal.{Journal}
use Rattle.kt_run.proofs.Outcomes.{run_returning_store, told_over}
use Rattle.kt_run.proofs.running.run_read.Goals as goal

pub returns-in-Ok-clause-run : goal.returns-in-Ok-clause-run
returns-in-Ok-clause-run g c =
    run_returning_store c.args.start c.args.reader.now c.read_text.new.reader c.in-Ok.text.items c.deref.result.now (λ (j : Journal). j.world.is_honest)
    (g.S.CkptStore.content c.args.store) (λ (j : Journal). j.steps) (λ (j : Journal). j.world.state) c.run_told.result
    c.in-Ok.ensures.read c.deref.ensures.value c.run_told.ensures.run

pub returns-in-Ok-clause-fault : goal.returns-in-Ok-clause-fault
returns-in-Ok-clause-fault g c =
    told_over c.args.start (store_value g.S.CkptStore) (store_value g.S.CkptStore c.args.store) _ _ c.in-Ok.text.items c.deref.result.now
    c.run_told.result c.in-Ok.ensures.read c.deref.ensures.value c.run_told.ensures.fault

pub returns-in-Err-clause-fault : goal.returns-in-Err-clause-fault
returns-in-Err-clause-fault g c = of_reading c.in-Err.ensures.only refl
