-- Of `try_step` in src/main.rt.
use Rattle.std.proofs.Common.{refl}
use Rattle.kt_example.proofs.try_step.Goals as goal

-- nothing can fail a store in memory
pub returns : goal.returns
returns c = record { honest = c.step.ensures.lasts (λ store. refl) }
