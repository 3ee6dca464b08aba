use Rattle.std.proofs.Common.{arith}
use Rattle.kt_tell.specs.Shape.{entry_json_line}
use Rattle.kt_tell.proofs.Pieces.{chosen_end}
use Rattle.kt_tell.proofs.rows_json.json_of.Goals as goal

pub returns : goal.returns
returns c = record {
  text = chosen_end entry_json_line c.args.choice c.args.entries.now c.loop-entry.entry-index c.loop-entry.out.items (omega arith) c.loop-entry.invariant;
}
