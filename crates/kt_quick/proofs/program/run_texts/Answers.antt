use Rattle.std.proofs.Common.{◌≡◌, ◌∙◌, ap}
use Rattle.kt_command.specs.Command.{texts, words_behind}
use Rattle.kt_quick.proofs.Words.{told_of_same}
use Rattle.kt_quick.proofs.program.run_texts.Goals as goal

pub returns-in-Ok-clause-told : goal.returns-in-Ok-clause-told
returns-in-Ok-clause-told g c =
    let same : texts c.deref.result.now ≡ words_behind c.args.arguments.now = ap texts c.deref.ensures.value ∙ c.in-Ok.ensures in
    told_of_same _ _ _ _ _ _ _ same c.run_words.ensures.told
