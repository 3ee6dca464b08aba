use Rattle.std.proofs.Common.{◌∙◌, subst, sym}
use Rattle.kt_run.specs.declared.fault.RunTextFault.{RunTextFault}
use Rattle.kt_trials.specs.auxiliary.Laying.{IsTextUndrawn, no_memory, no_scenario}
use Rattle.kt_trials.proofs.Behind.{laid_told}
use Rattle.kt_trials.proofs.chaos.laid_told.Goals as goal

pub returns-in-Ok-laid_of-clause-laid : goal.returns-in-Ok-laid_of-clause-laid
returns-in-Ok-laid_of-clause-laid g c =
    laid_told c.args.chaos c.args.text.now _ _ _ _ c.in-Ok.ensures.spelled (sym c.into_faults.ensures ∙ c.unwrap-faults.ensures)
    c.in-Ok-laid_of.ensures

pub returns-in-Err-laid_of-clause-fault : goal.returns-in-Err-laid_of-clause-fault
returns-in-Err-laid_of-clause-fault g c = no_memory

pub returns-in-Err-clause-fault : goal.returns-in-Err-clause-fault
returns-in-Err-clause-fault g c =
    subst (λ (f : RunTextFault). IsTextUndrawn c.args.text.now f) (sym c.from.ensures) (no_scenario c.in-Err.ensures.explained)
