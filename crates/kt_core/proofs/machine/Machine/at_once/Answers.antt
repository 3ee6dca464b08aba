-- Of `Machine::at_once` in src/short_plans.rt.
use Rattle.std.proofs.Common.{subst, sym}
use Rattle.std.specs.Prelude.{IsOk, OnErr}
use Rattle.kt_store.specs.Content.{Content}
use Rattle.kt_scenario.specs.declared.step.Step.{Step}
use Rattle.kt_model.specs.StepPlan.{step_plan}
use Rattle.kt_core.specs.auxiliary.Machine.{state_of}
use Rattle.kt_core.proofs.machine.Machine.at_once.Goals as goal

pub returns-in-Repeat-clause-enabled : goal.returns-in-Repeat-clause-enabled
returns-in-Repeat-clause-enabled c =
    let P : Step → Type 0 = λ step. OnErr c.repeat_at_once.result ((held : Content) → IsOk (step_plan (state_of c.args.self.now held) step)) in
    subst P (sym c.in-Repeat.is) c.repeat_at_once.ensures.enabled
