use Rattle.std.proofs.Common.{refl}
use Rattle.kt_core.specs.Store.{store_value}
use Rattle.kt_scene.specs.Run.{of_reading}
use Rattle.kt_complete.specs.Completion.{in_replay}
use Rattle.kt_complete.proofs.Stops.{completed_told, stopped_told}
use Rattle.kt_complete.proofs.completing.completed_or_store.Goals as goal

pub returns-in-Ok-clause-completed : goal.returns-in-Ok-clause-completed
returns-in-Ok-clause-completed g c =
    completed_told c.args.start c.args.reader.now c.read_text.new.reader c.in-Ok.text.items c.deref.result.now (g.S.CkptStore.content c.args.store)
    (λ d. d.world) (λ d. d.steps.items) c.completed_told.result c.in-Ok.ensures.read c.deref.ensures.value c.completed_told.ensures.goes
    c.completed_told.ensures.over

pub returns-in-Ok-clause-fault : goal.returns-in-Ok-clause-fault
returns-in-Ok-clause-fault g c =
    let value = store_value g.S.CkptStore in
    stopped_told c.args.start value (value c.args.store) c.args.reader.now c.read_text.new.reader c.in-Ok.text.items c.deref.result.now
    c.completed_told.result c.in-Ok.ensures.read c.deref.ensures.value c.completed_told.ensures.fault

pub returns-in-Err-clause-fault : goal.returns-in-Err-clause-fault
returns-in-Err-clause-fault g c = in_replay (of_reading c.in-Err.ensures.only refl)
