use Rattle.std.proofs.Common.{◌≡◌, take}
use Rattle.kt_story.specs.Messages.{checks_in}
use Rattle.kt_story.proofs.arrow.checks_in.Given as goal

abbrev pub invariant-loop-row : goal.invariant-loop-row
invariant-loop-row l = l.checks.items ≡ checks_in (take l.row-index l.rows)
