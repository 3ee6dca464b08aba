use Rattle.std.proofs.Common.{rules}
use Rattle.kt_words.proofs.Growing.{plain_from_nothing, words_of_table}
use Rattle.kt_words.proofs.Tables.{plain_commands}
use Rattle.kt_words.proofs.completing.completion.Goals as goal

pub push_script-requires : goal.push_script-requires
push_script-requires c = plain_commands c.commands.result.now c.commands.ensures.plain

pub returns-clause-plain : goal.returns-clause-plain
returns-clause-plain c = plain_from_nothing _ _ (search rules) c.in_ok-push_script.ensures.extends

pub returns-clause-words : goal.returns-clause-words
returns-clause-words c = words_of_table _ _ _ c.commands.ensures.words c.in_ok-push_script.ensures.words

pub returns-clause-purpose : goal.returns-clause-purpose
returns-clause-purpose c = c.in_ok-push_script.ensures.purpose
