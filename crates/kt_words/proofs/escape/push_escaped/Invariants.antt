use Rattle.kt_words.specs.auxiliary.Growth.{Extends}
use Rattle.kt_words.proofs.escape.push_escaped.Given as goal

abbrev pub invariant-loop-byte : goal.invariant-loop-byte
invariant-loop-byte l = Extends l.fn.out.items l.out.items
