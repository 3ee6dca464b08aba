use Rattle.std.proofs.Common.{◌≡◌, ◌-◌}
use Rattle.kt_scenario.specs.declared.step.TheConstants.{MAX_STEPS}
use Rattle.kt_complete.specs.auxiliary.Going.{WentOn}
use Rattle.kt_complete.proofs.going.go_on.Given as goal

abbrev pub invariant-going : goal.invariant-going
invariant-going g l = record {
  went : WentOn l.initial.world l.world l.initial.steps.items l.steps.items;
  counts : l.world.counts ≡ l.initial.world.counts;
}

abbrev pub decreases-going : goal.decreases-going
decreases-going g l = MAX_STEPS - l.world.state.made
