use Rattle.kt_words.specs.auxiliary.Growth.{Extends}
use Rattle.kt_words.proofs.bash.push_valued.Given as goal

abbrev pub invariant-loop-option : goal.invariant-loop-option
invariant-loop-option l = Extends l.fn.out.items l.out.items
