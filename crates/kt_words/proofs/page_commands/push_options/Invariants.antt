use Rattle.kt_words.specs.auxiliary.Growth.{Extends}
use Rattle.kt_words.proofs.page_commands.push_options.Given as goal

abbrev pub invariant-loop-option : goal.invariant-loop-option
invariant-loop-option l = Extends l.fn.out.items l.out.items
