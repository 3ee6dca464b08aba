use Rattle.kt_words.proofs.Growing.{◌⊳◌, OnOk-then}
use Rattle.kt_words.proofs.page.push_status.Goals as goal

pub returns : goal.returns
returns c =
    OnOk-then _ _ _ c.push_text-4.ensures.extends (λ last.
    c.in_ok-push_text.ensures.extends ⊳ c.in_ok-push_text-2.ensures.extends ⊳ c.in_ok-push_text-3.ensures.extends
    ⊳ c.in_ok-push_escaped.ensures ⊳ last)
