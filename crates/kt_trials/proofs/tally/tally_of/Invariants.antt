use Rattle.std.proofs.Common.{◌≡◌, take}
use Rattle.std.specs.List.{flat_map}
use Rattle.kt_trials.specs.Tally.{firsts, told}
use Rattle.kt_trials.specs.auxiliary.Telling.{items_of}
use Rattle.kt_trials.proofs.tally.tally_of.Given as goal

abbrev pub invariant-loop-i : goal.invariant-loop-i
invariant-loop-i l = l.out.items ≡ flat_map (told (items_of l.reports)) (firsts (items_of (take l.i l.reports)))
