-- Of `Journal::make` in src/locked_journal.rt.
use Rattle.std.proofs.Common.{subst}
use Rattle.kt_model.specs.StepPlan.{step_plan}
use Rattle.kt_stage.specs.Acting.{RefusesStep}
use Rattle.kt_stage.specs.Journal.{Journal}
use Rattle.kt_stage.proofs.Making.{refuses_step}
use Rattle.kt_stage.proofs.journal.Journal.make.Goals as goal

pub returns-in-Err-clause-refusal : goal.returns-in-Err-clause-refusal
returns-in-Err-clause-refusal g c = λ h.
    subst (λ (j : Journal). RefusesStep c.in-Err.refusal (step_plan j.world.state c.args.step)) c.self.view_is
    (refuses_step c.in-Err.refusal (step_plan c.self.inside.world.state c.args.step) (c.in-Err.ensures.refusal h))
