use Rattle.std.proofs.Common.{◌≡◌}
use Rattle.kt_text.specs.Reading.{lines_of}
use Rattle.kt_explain.specs.Part.{part_after, part_at}
use Rattle.kt_explain.proofs.part.part_of.Given as goal

abbrev pub invariant-loop-left : goal.invariant-loop-left
invariant-loop-left l = part_after l.part l.left (lines_of l.rest).0 ≡ part_at l.text l.fn.line

abbrev pub decreases-loop-left : goal.decreases-loop-left
decreases-loop-left l = l.left
