use Rattle.kt_tuple.proofs.Fronts.{whole_word}
use Rattle.std.proofs.Common.{ℕ, List, Ok, sym, ap, ◌∙◌}
use Rattle.kt_tuple.proofs.reading.word_at.Goals as goal

pub returns-in-Some : goal.returns-in-Some
returns-in-Some c =
    whole_word c.args.text.now c.args.word.now c.in-Some.ensures.cases.0
    ∙ ap (λ (t : List ℕ). Ok t) (sym c.in-Some.ensures.cases.1)
