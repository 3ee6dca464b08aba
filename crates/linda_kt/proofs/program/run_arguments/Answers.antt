use Rattle.std.proofs.Common.{◌≡◌, ◌∙◌, List, [], refl, sym, ap, subst, true}
use Rattle.std.specs.Prelude.{◌≢◌}
use Rattle.std.specs.Vec.Iter.{into_iter_items}
use Rattle.kt_command.specs.Command.{Text, words_behind}
use Rattle.linda_kt.specs.Words.{AreWrong, are_silent, words_fault}
use Rattle.linda_kt.specs.Status.{unread}
use Rattle.linda_kt.proofs.Statuses.{told_of_same}
use Rattle.linda_kt.proofs.program.run_arguments.Goals as goal

pub returns-in-Ok-texts-clause-told : goal.returns-in-Ok-texts-clause-told
returns-in-Ok-texts-clause-told g c =
    let same : words_behind c.deref.result.now ≡ words_behind (into_iter_items c.in-Ok.arguments) =
    ap words_behind (c.deref.ensures.value ∙ c.in-Ok-texts.ensures) in
    rw c.in-Ok.is (told_of_same _ _ _ _ _ _ _ _ _ _ _ _ _ _ same c.run_texts.ensures.told)

pub returns-in-Ok-texts-clause-wrong_words : goal.returns-in-Ok-texts-clause-wrong_words
returns-in-Ok-texts-clause-wrong_words g c =
    let same : words_behind c.deref.result.now ≡ words_behind (into_iter_items c.in-Ok.arguments) =
    ap words_behind (c.deref.ensures.value ∙ c.in-Ok-texts.ensures) in
    rw c.in-Ok.is (λ wrong. c.run_texts.ensures.wrong_words (subst AreWrong (sym same) wrong))

pub returns-in-Ok-texts-clause-wrong_words_print_nothing : goal.returns-in-Ok-texts-clause-wrong_words_print_nothing
returns-in-Ok-texts-clause-wrong_words_print_nothing g c =
    let same : words_behind c.deref.result.now ≡ words_behind (into_iter_items c.in-Ok.arguments) =
    ap words_behind (c.deref.ensures.value ∙ c.in-Ok-texts.ensures) in
    rw c.in-Ok.is (λ h. c.run_texts.ensures.wrong_words_print_nothing (subst AreWrong (sym same) h))

pub returns-in-Ok-texts-clause-no_command : goal.returns-in-Ok-texts-clause-no_command
returns-in-Ok-texts-clause-no_command g c =
    let same : words_behind c.deref.result.now ≡ words_behind (into_iter_items c.in-Ok.arguments) =
    ap words_behind (c.deref.ensures.value ∙ c.in-Ok-texts.ensures) in
    let Fails : List Text → Type 0 = λ words. words_fault words ≢ [] in
    rw c.in-Ok.is (λ h. c.run_texts.ensures.no_command (subst Fails (sym same) h))

pub returns-in-Ok-texts-clause-no_command_reads_nothing : goal.returns-in-Ok-texts-clause-no_command_reads_nothing
returns-in-Ok-texts-clause-no_command_reads_nothing g c =
    let same : words_behind c.deref.result.now ≡ words_behind (into_iter_items c.in-Ok.arguments) =
    ap words_behind (c.deref.ensures.value ∙ c.in-Ok-texts.ensures) in
    let Fails : List Text → Type 0 = λ words. words_fault words ≢ [] in
    rw c.in-Ok.is (λ h. c.run_texts.ensures.no_command_reads_nothing (subst Fails (sym same) h))

pub returns-in-Ok-texts-clause-done_without_a_word : goal.returns-in-Ok-texts-clause-done_without_a_word
returns-in-Ok-texts-clause-done_without_a_word g c =
    let same : words_behind c.deref.result.now ≡ words_behind (into_iter_items c.in-Ok.arguments) =
    ap words_behind (c.deref.ensures.value ∙ c.in-Ok-texts.ensures) in
    let Silent : List Text → Type 0 = λ words. are_silent c.args.terminals words ≡ true in
    rw c.in-Ok.is (λ h. c.run_texts.ensures.done_without_a_word (subst Silent (sym same) h))

pub returns-in-Err-texts-clause-told : goal.returns-in-Err-texts-clause-told
returns-in-Err-texts-clause-told g c = rw c.in-Ok.is (λ none. unread c.end_by-in-Err-texts.ensures refl refl)
