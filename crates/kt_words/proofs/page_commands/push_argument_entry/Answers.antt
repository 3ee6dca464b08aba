use Rattle.kt_words.proofs.Growing.{◌⊳◌, OnOk-then}
use Rattle.kt_words.proofs.page_commands.push_argument_entry.Goals as goal

pub returns : goal.returns
returns c =
    OnOk-then _ _ _ c.push_sentence.ensures (λ last.
    c.in_ok-push_text.ensures.extends ⊳ c.in_ok-push_text-2.ensures.extends ⊳ c.in_ok-push_text-3.ensures.extends
    ⊳ last)
