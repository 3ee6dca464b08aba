use Rattle.std.proofs.Common.{refl}
use Rattle.kt_summary.proofs.remaking.world_of.Goals as goal

pub returns-in-Ok-clause-state : goal.returns-in-Ok-clause-state
returns-in-Ok-clause-state c = c.in-Ok.ensures.opened (c.in-Ok.ensures.lasts (λ store. refl) refl)

pub returns-in-Ok-clause-honest : goal.returns-in-Ok-clause-honest
returns-in-Ok-clause-honest c = c.in-Ok.ensures.lasts (λ store. refl) refl
