use Rattle.kt_words.proofs.Growing.{◌⊳◌, HasCommands-later, HasSubslice-later, OnOk-then}
use Rattle.kt_words.specs.Shell.{purpose_of}
use Rattle.kt_words.specs.declared.shell.Shell.TheVariants.{Bash}
use Rattle.kt_words.proofs.bash.push_bash.Goals as goal

pub returns-clause-extends : goal.returns-clause-extends
returns-clause-extends c =
    OnOk-then _ _ _ c.push_text-4.ensures.extends (λ last.
    c.in_ok-push_text.ensures.extends ⊳ c.in_ok-push_text-2.ensures.extends ⊳ c.in_ok-push_names.ensures
    ⊳ c.in_ok-push_text-3.ensures.extends ⊳ c.in_ok-push_cases.ensures.extends ⊳ last)

pub returns-clause-words : goal.returns-clause-words
returns-clause-words c =
    OnOk-then _ _ _ c.push_text-4.ensures.extends (λ last. HasCommands-later _ _ _ (last) c.in_ok-push_cases.ensures.words)

pub returns-clause-purpose : goal.returns-clause-purpose
returns-clause-purpose c =
    OnOk-then _ _ _ c.push_text-4.ensures.extends (λ last.
    HasSubslice-later _ _ (purpose_of Bash) (c.in_ok-push_text-2.ensures.extends ⊳ c.in_ok-push_names.ensures
    ⊳ c.in_ok-push_text-3.ensures.extends ⊳ c.in_ok-push_cases.ensures.extends ⊳ last) c.in_ok-push_text.ensures.there)
