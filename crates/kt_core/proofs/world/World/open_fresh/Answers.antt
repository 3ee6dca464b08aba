use Rattle.kt_refinement.proofs.Shared.{headline-reached}
use Rattle.kt_core.proofs.Worlds.{opened-world}
use Rattle.kt_core.proofs.world.World.open_fresh.Goals as goal

pub invariant_of-result : goal.invariant_of-result
invariant_of-result g c =
    opened-world c.in-Ok.machine c.args.scene (g.S.CkptStore.content c.args.store) (g.S.CkptStore.is_honest c.args.store)
    c.in-Ok.ensures.opened c.in-Ok.ensures.scene c.in-Ok.ensures.short
    c.requires

pub returns-in-Ok-clause-headline : goal.returns-in-Ok-clause-headline
returns-in-Ok-clause-headline g c =
    let world = opened-world c.in-Ok.machine c.args.scene (g.S.CkptStore.content c.args.store) (g.S.CkptStore.is_honest c.args.store)
    c.in-Ok.ensures.opened c.in-Ok.ensures.scene
    c.in-Ok.ensures.short c.requires in λ h. headline-reached _ (world.reached h)
