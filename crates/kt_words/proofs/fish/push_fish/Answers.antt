use Rattle.kt_words.proofs.Growing.{◌⊳◌, HasSubslice-later, OnOk-then}
use Rattle.kt_words.specs.Shell.{purpose_of}
use Rattle.kt_words.specs.declared.shell.Shell.TheVariants.{Fish}
use Rattle.kt_words.proofs.fish.push_fish.Goals as goal

pub returns-clause-purpose : goal.returns-clause-purpose
returns-clause-purpose c =
    OnOk-then _ _ _ c.push_cases.ensures.extends (λ last.
    HasSubslice-later _ _ (purpose_of Fish) (c.in_ok-push_text-2.ensures.extends ⊳ last) c.in_ok-push_text.ensures.there)
