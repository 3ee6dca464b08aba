use Rattle.std.proofs.Common.{refl}
use Rattle.kt_summary.proofs.remaking.make.Goals as goal

pub returns-clause-honest : goal.returns-clause-honest
returns-clause-honest c = c.step.ensures.lasts (λ store. refl) c.requires.honest

pub returns-clause-made : goal.returns-clause-made
returns-clause-made c = c.step.ensures.effect (c.step.ensures.lasts (λ store. refl) c.requires.honest)

pub returns-clause-refusal : goal.returns-clause-refusal
returns-clause-refusal c = c.step.ensures.refusal (c.step.ensures.lasts (λ store. refl) c.requires.honest)

pub returns-clause-noted : goal.returns-clause-noted
returns-clause-noted c = c.step.ensures.noted (c.step.ensures.lasts (λ store. refl) c.requires.honest)
