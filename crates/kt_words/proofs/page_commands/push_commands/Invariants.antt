use Rattle.std.proofs.Common.{take}
use Rattle.kt_words.specs.auxiliary.Growth.{Extends, HasCommands}
use Rattle.kt_words.proofs.page_commands.push_commands.Given as goal

abbrev pub invariant-loop-command : goal.invariant-loop-command
invariant-loop-command l = record {
  extends : Extends l.fn.out.items l.out.items;
  words : HasCommands l.out.items (take l.command-index l.commands);
}
