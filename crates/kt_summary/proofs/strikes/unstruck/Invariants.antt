use Rattle.std.proofs.Common.{◌≡◌, map, take}
use Rattle.kt_summary.specs.auxiliary.Marking.{unstruck}
use Rattle.kt_summary.proofs.strikes.unstruck.Given as goal

abbrev pub invariant-loop-line : goal.invariant-loop-line
invariant-loop-line l = l.found.items ≡ map unstruck (take l.line-index l.lines)
