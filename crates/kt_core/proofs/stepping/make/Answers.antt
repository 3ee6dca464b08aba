use Rattle.std.proofs.Common.{subst, sym}
use Rattle.std.specs.Prelude.{IsTrue}
use Rattle.kt_model.specs.StepPlan.{IsUndamaged}
use Rattle.kt_store.specs.Content.{empty_content}
use Rattle.kt_core.specs.auxiliary.Machine.{state_of}
use Rattle.kt_core.proofs.Steps.{by-result}
use Rattle.kt_core.specs.declared.machine.Machine.{Machine}
use Rattle.kt_core.proofs.stepping.make.Goals as goal

pub make_by_plan-requires-clause-undamaged : goal.make_by_plan-requires-clause-undamaged
make_by_plan-requires-clause-undamaged g c =
    let content = g.S.CkptStore.content c.args.store.now in
    let P : Machine → Type 0 = λ m. IsTrue (g.S.CkptStore.is_honest c.args.store.now) → IsUndamaged (state_of m content) in
    subst P (sym (c.in-Ok-false.ensures.left c.in-Ok-false.field-0-test)) c.requires.undamaged

pub returns-in-Err-clause-refusal : goal.returns-in-Err-clause-refusal
returns-in-Err-clause-refusal g c = λ h. c.in-Err.ensures.enabled (g.S.CkptStore.content c.args.store.now)

pub returns-in-Err-clause-same : goal.returns-in-Err-clause-same
returns-in-Err-clause-same g c = c.in-Err.ensures.same empty_content

pub returns-in-Ok-true-clause-by_plan : goal.returns-in-Ok-true-clause-by_plan
returns-in-Ok-true-clause-by_plan g c =
    by-result (state_of c.args.machine.now empty_content) (state_of c.at_once.new.self empty_content) c.args.step
    (c.in-Ok-true.ensures.made c.in-Ok-true.field-0-test empty_content)
