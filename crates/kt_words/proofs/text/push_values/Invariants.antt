use Rattle.kt_words.specs.auxiliary.Growth.{Extends}
use Rattle.kt_words.proofs.text.push_values.Given as goal

abbrev pub invariant-loop-place : goal.invariant-loop-place
invariant-loop-place l = Extends l.fn.out.items l.out.items
