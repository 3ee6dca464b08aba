use Rattle.std.proofs.Common.{◌≡◌, ◌∙◌, ap, subst}
use Rattle.std.specs.Prelude.{IsTrue}
use Rattle.std.specs.List.{list_all}
use Rattle.kt_core.specs.auxiliary.Rows.{is_steady_code}
use Rattle.kt_model.specs.Headline.{Headline, is_steady}
use Rattle.kt_refinement.proofs.Shared.{headline-reached}
use Rattle.kt_core.specs.World.{WorldModel}
use Rattle.kt_core.proofs.Later.{all-rows}
use Rattle.kt_core.proofs.world.World.is_steady.Goals as goal

pub returns-clause-value : goal.returns-clause-value
returns-clause-value g c =
    let P : WorldModel → Type 0 = λ w. c.are_steady.result ≡ is_steady w.state in
    subst P c.self.view_is (c.are_steady.ensures ∙ ap (list_all is_steady_code) c.deref.ensures.value ∙ all-rows c.self.inside.machine.nodes.items)

pub returns-clause-headline : goal.returns-clause-headline
returns-clause-headline g c =
    let P : WorldModel → Type 0 = λ w. IsTrue w.is_honest → Headline w.state in subst P c.self.view_is (λ h. headline-reached _ (c.self.invariant.reached h))
