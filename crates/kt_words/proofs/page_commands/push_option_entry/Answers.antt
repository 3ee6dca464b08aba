use Rattle.kt_words.proofs.Growing.{◌⊳◌, HasOption-later, OnOk-then}
use Rattle.kt_words.proofs.page_commands.push_option_entry.Goals as goal

pub returns-clause-extends : goal.returns-clause-extends
returns-clause-extends c =
    OnOk-then _ _ _ c.push_sentence.ensures (λ last.
    c.in_ok-push_text.ensures.extends ⊳ c.in_ok-push_option.ensures.extends ⊳ c.in_ok-push_text-2.ensures.extends
    ⊳ last)

pub returns-clause-word : goal.returns-clause-word
returns-clause-word c =
    OnOk-then _ _ _ c.push_sentence.ensures (λ last. HasOption-later _ _ _ (c.in_ok-push_text-2.ensures.extends ⊳ last) c.in_ok-push_option.ensures.word)
