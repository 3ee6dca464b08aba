use Rattle.std.proofs.Common.{subst}
use Rattle.std.specs.Prelude.{IsTrue}
use Rattle.kt_model.specs.Headline.{Headline}
use Rattle.kt_core.specs.World.{WorldModel}
use Rattle.kt_refinement.proofs.Shared.{headline-reached}
use Rattle.kt_core.proofs.world.World.bags.Goals as goal

pub returns-clause-headline : goal.returns-clause-headline
returns-clause-headline g c =
    let P : WorldModel → Type 0 = λ w. IsTrue w.is_honest → Headline w.state in subst P c.self.view_is (λ h. headline-reached _ (c.self.invariant.reached h))
