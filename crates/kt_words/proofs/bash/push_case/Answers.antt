use Rattle.kt_words.proofs.Growing.{◌⊳◌, HasCommand-made, HasOptions-later, HasSubslice-later, OnOk-then}
use Rattle.kt_words.proofs.bash.push_case.Goals as goal

pub returns-clause-extends : goal.returns-clause-extends
returns-clause-extends c =
    OnOk-then _ _ _ c.push_text-5.ensures.extends (λ last.
    c.in_ok-push_text.ensures.extends ⊳ c.in_ok-push_text-2.ensures.extends ⊳ c.in_ok-push_text-3.ensures.extends
    ⊳ c.in_ok-push_options.ensures.extends ⊳ c.in_ok-push_text-4.ensures.extends ⊳ c.in_ok-push_valued.ensures
    ⊳ c.in_ok-push_valued-2.ensures ⊳ c.in_ok-push_arguments.ensures ⊳ last)

pub returns-clause-words : goal.returns-clause-words
returns-clause-words c =
    OnOk-then _ _ _ c.push_text-5.ensures.extends (λ last.
    HasCommand-made _ _ (HasSubslice-later _ _ _ (c.in_ok-push_text-3.ensures.extends ⊳ c.in_ok-push_options.ensures.extends
    ⊳ c.in_ok-push_text-4.ensures.extends ⊳ c.in_ok-push_valued.ensures ⊳ c.in_ok-push_valued-2.ensures
    ⊳ c.in_ok-push_arguments.ensures ⊳ last) c.in_ok-push_text-2.ensures.there)
    (HasOptions-later _ _ _ (c.in_ok-push_text-4.ensures.extends ⊳ c.in_ok-push_valued.ensures ⊳ c.in_ok-push_valued-2.ensures
    ⊳ c.in_ok-push_arguments.ensures ⊳ last) c.in_ok-push_options.ensures.words))
