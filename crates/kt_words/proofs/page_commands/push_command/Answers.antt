use Rattle.kt_words.proofs.Growing.{◌⊳◌, HasCommand-made, HasSubslice-later, OnOk-both, OnOk-then}
use Rattle.kt_words.proofs.page_commands.push_command.Goals as goal

pub returns-clause-extends : goal.returns-clause-extends
returns-clause-extends c =
    OnOk-then _ _ _ c.push_option_entries.ensures.extends (λ last.
    c.in_ok-push_text.ensures.extends ⊳ c.in_ok-push_text-2.ensures.extends ⊳ c.in_ok-push_text-3.ensures.extends
    ⊳ c.in_ok-push_sentence.ensures ⊳ c.in_ok-push_argument_entries.ensures ⊳ last)

pub returns-clause-words : goal.returns-clause-words
returns-clause-words c =
    OnOk-both _ _ _ _ c.push_option_entries.ensures.extends c.push_option_entries.ensures.words (λ last options.
    HasCommand-made _ _ (HasSubslice-later _ _ _ (c.in_ok-push_text-3.ensures.extends ⊳ c.in_ok-push_sentence.ensures
    ⊳ c.in_ok-push_argument_entries.ensures ⊳ last) c.in_ok-push_text-2.ensures.there) options)
