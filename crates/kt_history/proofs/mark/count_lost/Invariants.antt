use Rattle.std.proofs.Common.{◌≡◌, ◌≤◌, take}
use Rattle.kt_history.specs.auxiliary.Marks.{lost_among}
use Rattle.kt_history.proofs.mark.count_lost.Given as goal

abbrev pub invariant-loop-place : goal.invariant-loop-place
invariant-loop-place l =
    record { counted : l.lost ≡ lost_among (take l.place l.notes) (take l.place l.marks); bound : l.lost ≤ l.place }
