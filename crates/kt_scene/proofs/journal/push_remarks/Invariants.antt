use Rattle.std.proofs.Common.{◌≡◌, ◌++◌, length}
use Rattle.kt_scene.specs.Journal.{remarks}
use Rattle.kt_scene.proofs.journal.push_remarks.Given as goal

abbrev pub invariant-loop-line : goal.invariant-loop-line
invariant-loop-line l = l.out.items ++ remarks l.rest ≡ l.initial.out.items ++ remarks l.report

abbrev pub decreases-loop-line : goal.decreases-loop-line
decreases-loop-line l = length l.rest
