use Rattle.std.proofs.Common.{refl}
use Rattle.linda_kt.specs.Status.{did, unread}
use Rattle.linda_kt.proofs.Statuses.{without_fault, asks_for_no_text}
use Rattle.linda_kt.proofs.program.run_program.Goals as goal

pub returns-in-Ok-clause-told : goal.returns-in-Ok-clause-told
returns-in-Ok-clause-told g c = λ none. did _ c.in-Ok.ensures.command c.run_request.ensures.told

pub returns-in-Err-clause-told : goal.returns-in-Err-clause-told
returns-in-Err-clause-told g c = λ none.
    let memory = without_fault _ c.in-Err.error none c.in-Err.ensures.refused in
    let no_text = asks_for_no_text c.in-Err.error memory in
    unread (c.answer_words.ensures.memory memory) (refl {a = c.args.reader.now}) (c.answer_words.ensures.quiet no_text.0 no_text.1)
