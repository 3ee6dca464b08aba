use Rattle.kt_words.specs.auxiliary.Growth.{Extends}
use Rattle.kt_words.proofs.zsh.push_names.Given as goal

abbrev pub invariant-loop-command : goal.invariant-loop-command
invariant-loop-command l = Extends l.fn.out.items l.out.items
