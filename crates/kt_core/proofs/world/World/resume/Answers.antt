-- Of `World::resume` in src/resuming.rt.
use Rattle.kt_core.proofs.world.World.resume.Goals as goal

pub returns-in-Err-clause-unfit : goal.returns-in-Err-clause-unfit
returns-in-Err-clause-unfit g c = λ p is h. c.in-Err.ensures.unfit h p is
