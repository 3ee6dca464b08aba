use Rattle.std.proofs.Common.{take}
use Rattle.kt_story.specs.auxiliary.Waiting.{HasArrivals}
use Rattle.kt_story.proofs.arrow.arrivals_of.Given as goal

abbrev pub invariant-loop-row : goal.invariant-loop-row
invariant-loop-row l = HasArrivals l.workers l.shards (take l.row-index l.rows) l.ways
