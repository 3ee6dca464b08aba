use Rattle.kt_story.proofs.Arriving.{Goes}
use Rattle.kt_story.proofs.arrow.push_arrows.Given as goal

abbrev pub invariant-loop-to : goal.invariant-loop-to
invariant-loop-to l =
    Goes l.story l.row l.row.sent l.to-index l.initial.found.items l.found.items l.initial.ways l.ways
