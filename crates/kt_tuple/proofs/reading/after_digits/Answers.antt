use Rattle.std.proofs.Common.{sym, ◌∙◌}
use Rattle.kt_tuple.proofs.Readers.{digits_end, all_digits}
use Rattle.kt_tuple.proofs.reading.after_digits.Goals as goal

pub returns-in-Some : goal.returns-in-Some
returns-in-Some c = c.split_at.ensures.back ∙ digits_end c.args.text.now c.in-Some.count (sym c.first_no_digit.ensures.value ∙ c.in-Some.is)

pub returns-in-None : goal.returns-in-None
returns-in-None c = all_digits c.args.text.now (sym c.first_no_digit.ensures.value ∙ c.in-None.is)
