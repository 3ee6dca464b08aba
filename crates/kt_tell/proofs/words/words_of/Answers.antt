use Rattle.std.proofs.Common.{arith}
use Rattle.kt_tell.specs.Words.{entry_line}
use Rattle.kt_tell.proofs.Pieces.{chosen_end}
use Rattle.kt_tell.proofs.words.words_of.Goals as goal

pub returns : goal.returns
returns c = record {
  text = chosen_end entry_line c.args.choice c.args.entries.now c.loop-entry.entry-index c.loop-entry.out.items (omega arith) c.loop-entry.invariant;
}
