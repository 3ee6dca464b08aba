-- Of `Machine::gathered_plan` in src/planning.rt.
use Rattle.std.proofs.Common.{subst, sym}
use Rattle.kt_store.specs.Content.{empty_content}
use Rattle.kt_model.specs.StepPlan.{step_plan_by}
use Rattle.kt_model.specs.State.{State}
use Rattle.kt_model.specs.auxiliary.Ready.{IsReady}
use Rattle.kt_core.specs.auxiliary.Machine.{Gives}
use Rattle.kt_core.proofs.machine.Machine.gathered_plan.Goals as goal

pub plan-requires-clause-ready : goal.plan-requires-clause-ready
plan-requires-clause-ready c = subst IsReady (sym (c.gather.ensures empty_content)) c.requires.ready

pub returns-clause-plan : goal.returns-clause-plan
returns-clause-plan c =
    let P : State → Type 0 = λ s. Gives c.plan.result (step_plan_by s c.args.store_reads c.args.step) in
    subst P (c.gather.ensures empty_content) c.plan.ensures
