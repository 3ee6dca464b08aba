use Rattle.kt_words.proofs.Growing.{◌⊳◌, HasCommands-later, OnOk-then}
use Rattle.kt_words.proofs.Tables.{plain_statuses}
use Rattle.kt_words.proofs.page.push_page.Goals as goal

pub push_statuses-requires : goal.push_statuses-requires
push_statuses-requires c = plain_statuses c.statuses.result.now c.statuses.ensures

pub returns-clause-extends : goal.returns-clause-extends
returns-clause-extends c =
    OnOk-then _ _ _ c.push_text-3.ensures.extends (λ last.
    c.in_ok-push_head.ensures ⊳ c.in_ok-push_synopsis.ensures ⊳ c.in_ok-push_text.ensures.extends
    ⊳ c.in_ok-push_commands.ensures.extends ⊳ c.in_ok-push_text-2.ensures.extends ⊳ c.in_ok-push_statuses.ensures
    ⊳ last)

pub returns-clause-words : goal.returns-clause-words
returns-clause-words c =
    OnOk-then _ _ _ c.push_text-3.ensures.extends (λ last.
    HasCommands-later _ _ _ (c.in_ok-push_text-2.ensures.extends ⊳ c.in_ok-push_statuses.ensures ⊳ last) c.in_ok-push_commands.ensures.words)
