use Rattle.std.proofs.Common.{◌≡◌, List, ◌-◌}
use Rattle.std.specs.Prelude.{IsTrue}
use Rattle.kt_store.specs.Calls.{NeverFails}
use Rattle.kt_scenario.specs.declared.step.TheConstants.{MAX_STEPS}
use Rattle.kt_scenario.specs.declared.step.Step.{Step}
use Rattle.kt_stage.specs.Settling.{Settles}
use Rattle.kt_stage.proofs.settling.settle.Given as goal

abbrev pub invariant-loop-step : goal.invariant-loop-step
invariant-loop-step g l =
    record {
      settles : (steps : List Step) × Settles l.initial.world l.world l.initial.faults l.faults steps;
      lasts : NeverFails g.S.CkptStore.failures → IsTrue l.initial.world.is_honest → IsTrue l.world.is_honest;
      counts : l.world.counts ≡ l.initial.world.counts;
    }

abbrev pub decreases-loop-step : goal.decreases-loop-step
decreases-loop-step g l = MAX_STEPS - l.world.state.made
