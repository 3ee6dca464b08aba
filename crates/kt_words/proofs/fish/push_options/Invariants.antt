use Rattle.std.proofs.Common.{take}
use Rattle.kt_words.specs.auxiliary.Growth.{Extends, HasOptions}
use Rattle.kt_words.proofs.fish.push_options.Given as goal

abbrev pub invariant-loop-option : goal.invariant-loop-option
invariant-loop-option l = record {
  extends : Extends l.fn.out.items l.out.items;
  words : HasOptions l.out.items (take l.option-index l.options);
}
