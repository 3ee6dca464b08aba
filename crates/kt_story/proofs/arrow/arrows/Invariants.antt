use Rattle.kt_story.proofs.Arriving.{Drawn}
use Rattle.kt_story.proofs.arrow.arrows.Given as goal

abbrev pub invariant-loop-row : goal.invariant-loop-row
invariant-loop-row l = Drawn l.story l.rows l.row-index l.found.items l.ways
