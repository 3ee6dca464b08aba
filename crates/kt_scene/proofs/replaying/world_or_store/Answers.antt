use Rattle.kt_core.specs.Store.{store_value}
use Rattle.kt_scene.proofs.Replays.{told_over}
use Rattle.kt_scene.proofs.replaying.world_or_store.Goals as goal

pub returns-in-Ok-clause-fault : goal.returns-in-Ok-clause-fault
returns-in-Ok-clause-fault g c =
    let value = store_value g.S.CkptStore in
    told_over c.args.start value (value c.args.store) _ _ c.in-Ok.text.items
    c.deref.result.now c.world_told.result c.in-Ok.ensures.read c.deref.ensures.value c.world_told.ensures.fault
