use Rattle.std.proofs.Common.{pos, sym, ◌∙◌, arith}
use Rattle.kt_tuple.specs.declared.value.Value.TheVariants.{Int}
use Rattle.kt_script.proofs.PlaceLemmas.{held-some}
use Rattle.kt_script.proofs.variables.held.Goals as goal

pub returns-in-Some : goal.returns-in-Some
returns-in-Some c = c.get.ensures.lookup.4 (omega arith) (Int (pos 0)) ∙ sym (held-some _ _ _ _ (sym c.in-Some.ensures))
