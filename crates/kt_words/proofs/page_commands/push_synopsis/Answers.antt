use Rattle.kt_words.proofs.Growing.{◌⊳◌, OnOk-then}
use Rattle.kt_words.proofs.page_commands.push_synopsis.Goals as goal

pub returns : goal.returns
returns c = OnOk-then _ _ _ c.push_text-2.ensures.extends (λ last. c.loop-command.invariant ⊳ last)
