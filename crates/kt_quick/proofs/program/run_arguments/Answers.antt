use Rattle.std.proofs.Common.{◌≡◌, ◌∙◌, List, ap, false, subst, sym}
use Rattle.std.specs.Vec.Iter.{into_iter_items}
use Rattle.kt_command.specs.Command.{Text, words_behind}
use Rattle.kt_quick.specs.Words.{ask_for_words}
use Rattle.kt_quick.proofs.Words.{told_of_same}
use Rattle.kt_quick.proofs.program.run_arguments.Goals as goal

pub returns-in-Ok-texts_of-clause-told : goal.returns-in-Ok-texts_of-clause-told
returns-in-Ok-texts_of-clause-told g c =
    let same : words_behind c.deref.result.now ≡ words_behind (into_iter_items c.in-Ok.arguments) =
    ap words_behind (c.deref.ensures.value ∙ c.in-Ok-texts_of.ensures) in
    rw c.in-Ok.is (told_of_same _ _ _ _ _ _ _ same c.run_texts.ensures.told)

pub returns-in-Ok-texts_of-clause-done_without_a_word : goal.returns-in-Ok-texts_of-clause-done_without_a_word
returns-in-Ok-texts_of-clause-done_without_a_word g c =
    let same : words_behind c.deref.result.now ≡ words_behind (into_iter_items c.in-Ok.arguments) =
    ap words_behind (c.deref.ensures.value ∙ c.in-Ok-texts_of.ensures) in
    let Unasked : List Text → Type 0 = λ words. ask_for_words words ≡ false in
    rw c.in-Ok.is (λ h. c.run_texts.ensures.done_without_a_word (subst Unasked (sym same) h))
