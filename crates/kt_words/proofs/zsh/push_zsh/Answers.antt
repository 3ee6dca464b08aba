use Rattle.kt_words.proofs.Growing.{◌⊳◌, HasCommands-later, HasSubslice-later, OnOk-then}
use Rattle.kt_words.specs.Shell.{purpose_of}
use Rattle.kt_words.specs.declared.shell.Shell.TheVariants.{Zsh}
use Rattle.kt_words.proofs.zsh.push_zsh.Goals as goal

pub returns-clause-extends : goal.returns-clause-extends
returns-clause-extends c =
    OnOk-then _ _ _ c.push_text-5.ensures.extends (λ last.
    c.in_ok-push_text.ensures.extends ⊳ c.in_ok-push_text-2.ensures.extends ⊳ c.in_ok-push_text-3.ensures.extends
    ⊳ c.in_ok-push_cases.ensures.extends ⊳ c.in_ok-push_text-4.ensures.extends ⊳ c.in_ok-push_names.ensures ⊳ last)

pub returns-clause-words : goal.returns-clause-words
returns-clause-words c =
    OnOk-then _ _ _ c.push_text-5.ensures.extends (λ last.
    HasCommands-later _ _ _ (c.in_ok-push_text-4.ensures.extends ⊳ c.in_ok-push_names.ensures ⊳ last) c.in_ok-push_cases.ensures.words)

pub returns-clause-purpose : goal.returns-clause-purpose
returns-clause-purpose c =
    OnOk-then _ _ _ c.push_text-5.ensures.extends (λ last.
    HasSubslice-later _ _ (purpose_of Zsh) (c.in_ok-push_text-3.ensures.extends ⊳ c.in_ok-push_cases.ensures.extends
    ⊳ c.in_ok-push_text-4.ensures.extends ⊳ c.in_ok-push_names.ensures ⊳ last) c.in_ok-push_text-2.ensures.there)
