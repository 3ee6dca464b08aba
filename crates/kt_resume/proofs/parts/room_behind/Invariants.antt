use Rattle.std.proofs.Common.{◌≡◌, ◌+◌, filter, take}
use Rattle.kt_tuple.specs.Node.{is_before}
use Rattle.kt_scenario.specs.declared.step.TheConstants.{MAX_NOTES}
use Rattle.kt_model.specs.Resumed.{all_held}
use Rattle.kt_resume.specs.Found.{content_of}
use Rattle.kt_resume.proofs.parts.room_behind.Given as goal

-- what the nodes that were looked at leave
abbrev pub invariant-loop-other : goal.invariant-loop-other
invariant-loop-other l =
    l.room + all_held (content_of l.found) (filter (λ q. is_before q l.fn.node) (take l.other-index l.nodes)) ≡ MAX_NOTES
