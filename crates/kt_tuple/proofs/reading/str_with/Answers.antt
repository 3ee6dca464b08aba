use Rattle.std.proofs.Common.{List, ℕ, Some, ap, refl, ◌∙◌}
use Rattle.kt_tuple.specs.declared.value.Value.TheVariants.{Str}
use Rattle.kt_tuple.proofs.Strings.{str_of_text}
use Rattle.kt_tuple.proofs.reading.str_with.Goals as goal

pub returns-in-Some : goal.returns-in-Some
returns-in-Some c = ap (λ (s : List ℕ). Some (Str s)) c.in-Some.ensures.value ∙ str_of_text c.args.characters.now (c.in-Some.ensures.within.0 refl)
