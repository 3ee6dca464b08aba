-- Of `World::resume_with` in src/resuming.rt.
use Rattle.kt_refinement.proofs.Shared.{headline-reached}
use Rattle.kt_core.proofs.Resumes.{resumed-goes, resumed-state, resumed-world}
use Rattle.kt_core.proofs.world.World.resume_with.Goals as goal

pub invariant_of-result : goal.invariant_of-result
invariant_of-result g c =
    resumed-world c.in-Ok.machine c.args.scene (g.S.CkptStore.content c.args.store) (g.S.CkptStore.is_honest c.args.store)
    c.args.history.notes c.args.found c.in-Ok.ensures.resumed c.in-Ok.ensures.scene c.in-Ok.ensures.short c.requires.some c.requires.gathered

pub returns-in-Ok-clause-headline : goal.returns-in-Ok-clause-headline
returns-in-Ok-clause-headline g c =
    let world = resumed-world c.in-Ok.machine c.args.scene (g.S.CkptStore.content c.args.store) (g.S.CkptStore.is_honest c.args.store)
    c.args.history.notes c.args.found c.in-Ok.ensures.resumed c.in-Ok.ensures.scene c.in-Ok.ensures.short c.requires.some c.requires.gathered in
    λ h. headline-reached _ (world.reached h)

pub returns-in-Ok-clause-resumed : goal.returns-in-Ok-clause-resumed
returns-in-Ok-clause-resumed g c =
    λ h. resumed-state c.in-Ok.machine c.args.scene (g.S.CkptStore.content c.args.store) c.args.history.notes c.args.found c.in-Ok.ensures.resumed
    (c.requires.gathered h)

pub returns-in-Ok-clause-goes_on : goal.returns-in-Ok-clause-goes_on
returns-in-Ok-clause-goes_on g c =
    resumed-goes c.in-Ok.machine c.args.scene (g.S.CkptStore.content c.args.store) c.args.history.notes c.args.found c.in-Ok.ensures.resumed c.requires.some
