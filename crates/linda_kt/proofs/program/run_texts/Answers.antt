use Rattle.std.proofs.Common.{◌≡◌, ◌∙◌, refl, ap}
use Rattle.kt_command.specs.Command.{texts, words_behind}
use Rattle.linda_kt.specs.Status.{unread}
use Rattle.linda_kt.proofs.Statuses.{told_of_same}
use Rattle.linda_kt.proofs.program.run_texts.Goals as goal

pub returns-in-Ok-clause-told : goal.returns-in-Ok-clause-told
returns-in-Ok-clause-told g c =
    let same : texts c.as_slice.result.now ≡ words_behind c.args.arguments.now = ap texts c.as_slice.ensures.value ∙ c.in-Ok.ensures in
    told_of_same _ _ _ _ _ _ _ _ _ _ _ _ _ _ same c.run_program.ensures.told

pub returns-in-Err-clause-told : goal.returns-in-Err-clause-told
returns-in-Err-clause-told g c = λ none. unread c.end_by.ensures refl refl
