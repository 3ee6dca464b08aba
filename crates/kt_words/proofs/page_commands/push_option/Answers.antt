use Rattle.kt_words.proofs.Growing.{◌⊳◌, HasOption-later, HasOption-made, OnOk-then}
use Rattle.kt_words.proofs.page_commands.push_option.Goals as goal

pub returns-clause-extends : goal.returns-clause-extends
returns-clause-extends c =
    OnOk-then _ _ _ c.push_value.ensures (λ last.
    c.in_ok-push_text.ensures.extends ⊳ c.in_ok-push_text-2.ensures.extends ⊳ c.in_ok-push_text-3.ensures.extends
    ⊳ last)

pub returns-clause-word : goal.returns-clause-word
returns-clause-word c =
    OnOk-then _ _ _ c.push_value.ensures (λ last.
    HasOption-later _ _ _ (c.in_ok-push_text-3.ensures.extends ⊳ last)
    (HasOption-made _ _ c.in_ok-push_text-2.ensures.there))
