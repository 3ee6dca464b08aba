use Rattle.std.proofs.Common.{◌≡◌, ◌++◌, take}
use Rattle.std.specs.List.{flat_map}
use Rattle.kt_trials.specs.auxiliary.Laying.{remark_of}
use Rattle.kt_trials.proofs.chaos.push_remarks.Given as goal

abbrev pub invariant-loop-line : goal.invariant-loop-line
invariant-loop-line l = l.out.items ≡ l.initial.out.items ++ flat_map remark_of (take l.line-index l.lines)
