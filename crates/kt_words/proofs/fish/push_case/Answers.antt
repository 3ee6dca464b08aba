use Rattle.kt_words.proofs.Growing.{◌⊳◌, HasCommand-made, HasSubslice-later, OnOk-both, OnOk-then}
use Rattle.kt_words.proofs.fish.push_case.Goals as goal

pub returns-clause-extends : goal.returns-clause-extends
returns-clause-extends c =
    OnOk-then _ _ _ c.push_options.ensures.extends (λ last.
    c.in_ok-push_text.ensures.extends ⊳ c.in_ok-push_text-2.ensures.extends ⊳ c.in_ok-push_text-3.ensures.extends
    ⊳ c.in_ok-push_escaped.ensures ⊳ c.in_ok-push_text-4.ensures.extends ⊳ c.in_ok-push_arguments.ensures ⊳ last)

pub returns-clause-words : goal.returns-clause-words
returns-clause-words c =
    OnOk-both _ _ _ _ c.push_options.ensures.extends c.push_options.ensures.words (λ last options.
    HasCommand-made _ _ (HasSubslice-later _ _ _ (c.in_ok-push_text-3.ensures.extends ⊳ c.in_ok-push_escaped.ensures ⊳ c.in_ok-push_text-4.ensures.extends
    ⊳ c.in_ok-push_arguments.ensures ⊳ last) c.in_ok-push_text-2.ensures.there) options)
