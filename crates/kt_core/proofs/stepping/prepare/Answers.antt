use Rattle.std.proofs.Common.{◌∙◌, subst, sym}
use Rattle.kt_store.specs.Content.{empty_content}
use Rattle.kt_model.specs.declared.error.StepError.{StepError}
use Rattle.kt_model.specs.StepPlan.{step_plan}
use Rattle.kt_model.specs.auxiliary.Ready.{CanApply, IsReady}
use Rattle.kt_core.specs.auxiliary.Machine.{state_of}
use Rattle.kt_core.specs.Stepping.{IsCalledFor, Refuses}
use Rattle.kt_core.specs.auxiliary.StepPlans.{IsReadCause}
use Rattle.kt_core.proofs.Steps.{asked, called-plan, owner_plan-step_plan, refused, caused, only-damaged, plan-counted, is-ok, step_plan-can, step_plan-leads}
use Rattle.kt_core.proofs.Steps.{on-refusal}
use Rattle.kt_core.proofs.stepping.prepare.Goals as goal

pub returns-clause-can : goal.returns-clause-can
returns-clause-can g c =
    step_plan-can (state_of c.args.machine.now empty_content) c.args.step c.in_ok-store_reads.store_reads c.in_ok-plan.plan c.requires.ready
    c.in_ok-plan.ensures.plan

pub returns-clause-leads : goal.returns-clause-leads
returns-clause-leads g c =
    step_plan-leads (state_of c.args.machine.now empty_content) c.args.step c.in_ok-store_reads.store_reads c.in_ok-plan.plan c.requires.ready
    c.in_ok-plan.ensures.plan

pub make_room-requires-clause-can : goal.make_room-requires-clause-can
make_room-requires-clause-can g c =
    subst (λ s. CanApply s c.owner-owner.result c.in_ok-plan.plan) (sym (c.in_ok-plan.ensures.same empty_content))
    (subst (λ p. CanApply (state_of c.args.machine.now empty_content) p c.in_ok-plan.plan) (sym c.owner-owner.ensures)
    (step_plan-can (state_of c.args.machine.now empty_content) c.args.step c.in_ok-store_reads.store_reads c.in_ok-plan.plan c.requires.ready
    c.in_ok-plan.ensures.plan))

pub make_room-requires-clause-ready : goal.make_room-requires-clause-ready
make_room-requires-clause-ready g c = subst IsReady (sym (c.in_ok-plan.ensures.same empty_content)) c.requires.ready

pub returns-clause-same : goal.returns-clause-same
returns-clause-same g c = λ content. c.in_ok-make_room.ensures.same content ∙ c.in_ok-plan.ensures.same content

pub returns-in_err-make_room-clause-same : goal.returns-in_err-make_room-clause-same
returns-in_err-make_room-clause-same g c = λ content. c.in_err-make_room.ensures.same content ∙ c.in_ok-plan.ensures.same content

pub returns-clause-store_reads : goal.returns-clause-store_reads
returns-clause-store_reads g c = (c.in_ok-store_reads.store_reads, c.in_ok-plan.ensures.plan)

pub returns-clause-plan : goal.returns-clause-plan
returns-clause-plan g c =
    let s = state_of c.args.machine.now (g.S.CkptStore.content c.args.store.now) in
    λ h. sym (owner_plan-step_plan s c.args.step c.in_ok-store_reads.store_reads
    (asked s c.args.step c.in_ok-store_reads.store_reads c.read_set.result c.owner-owner.result (c.in_ok-store_reads.ensures.store_reads.value h)
    c.read_set.ensures c.owner-owner.ensures))
    ∙ c.in_ok-plan.ensures.plan

pub returns-in_err-plan-clause-refusal : goal.returns-in_err-plan-clause-refusal
returns-in_err-plan-clause-refusal g c =
    let s = state_of c.args.machine.now (g.S.CkptStore.content c.args.store.now) in
    let Due : StepError → Type 0 = λ e. Refuses e (step_plan s c.args.step) in
    λ h. on-refusal c.from_residual-in_err-plan.result _ Due c.from_residual-in_err-plan.ensures.1
    (λ e is. subst Due (sym is) (refused s c.args.step c.in_ok-store_reads.store_reads c.in_err-plan.field-0.0
    (asked s c.args.step c.in_ok-store_reads.store_reads c.read_set.result c.owner-owner.result (c.in_ok-store_reads.ensures.store_reads.value h)
    c.read_set.ensures c.owner-owner.ensures)
    c.in_err-plan.ensures.plan))

pub returns-in_err-plan-clause-cause : goal.returns-in_err-plan-clause-cause
returns-in_err-plan-clause-cause g c =
    let s = state_of c.args.machine.now (g.S.CkptStore.content c.args.store.now) in
    let honest = g.S.CkptStore.is_honest c.read_store.new.store in
    let beside = state_of c.args.machine.now empty_content in
    let Caused : StepError → Type 0 = IsReadCause beside honest in
    on-refusal c.from_residual-in_err-plan.result _ Caused c.from_residual-in_err-plan.ensures.1
    (λ e is. subst Caused (sym is) (caused honest s beside c.args.step c.in_ok-store_reads.store_reads c.in_err-plan.field-0.0 c.requires.ready
    (λ h. asked s c.args.step c.in_ok-store_reads.store_reads c.read_set.result c.owner-owner.result (c.in_ok-store_reads.ensures.store_reads.value h)
    c.read_set.ensures c.owner-owner.ensures) (λ h. c.requires.undamaged (c.in_ok-store_reads.ensures.store_reads.honest h)) c.in_err-plan.ensures.plan
    c.in_err-plan.ensures.plan))

pub returns-in_err-plan-clause-counts : goal.returns-in_err-plan-clause-counts
returns-in_err-plan-clause-counts g c =
    let s = state_of c.args.machine.now (g.S.CkptStore.content c.args.store.now) in
    plan-counted c.from_residual-in_err-plan.result c.in_err-plan.field-0.0 (g.S.CkptStore.counts c.args.store.now)
    (g.S.CkptStore.counts c.read_store.new.store)
    c.from_residual-in_err-plan.ensures.1 c.in_ok-store_reads.ensures.store_reads.counts
    (only-damaged s c.in_ok-store_reads.store_reads c.args.step c.in_err-plan.field-0.0 c.in_err-plan.ensures.plan)

pub returns-in_err-plan-clause-called : goal.returns-in_err-plan-clause-called
returns-in_err-plan-clause-called g c =
    let s = state_of c.args.machine.now (g.S.CkptStore.content c.args.store.now) in
    let Called : StepError → Type 0 = IsCalledFor s c.args.step in
    λ h. on-refusal c.from_residual-in_err-plan.result _ Called c.from_residual-in_err-plan.ensures.1
    (λ e is. subst Called (sym is) (called-plan s c.args.step c.in_ok-store_reads.store_reads c.in_err-plan.field-0.0
    (asked s c.args.step c.in_ok-store_reads.store_reads c.read_set.result c.owner-owner.result (c.in_ok-store_reads.ensures.store_reads.value h)
    c.read_set.ensures c.owner-owner.ensures)
    (c.requires.undamaged (c.in_ok-store_reads.ensures.store_reads.honest h)) c.in_err-plan.ensures.plan))

pub returns-in_err-make_room-clause-refusal : goal.returns-in_err-make_room-clause-refusal
returns-in_err-make_room-clause-refusal g c =
    let s = state_of c.args.machine.now (g.S.CkptStore.content c.args.store.now) in
    let Due : StepError → Type 0 = λ e. Refuses e (step_plan s c.args.step) in
    λ h. on-refusal c.from_residual-in_err-make_room.result _ Due c.from_residual-in_err-make_room.ensures.1
    (λ e is. subst Due (sym is) (is-ok (step_plan s c.args.step) c.in_ok-plan.plan
    (sym (owner_plan-step_plan s c.args.step c.in_ok-store_reads.store_reads
    (asked s c.args.step c.in_ok-store_reads.store_reads c.read_set.result c.owner-owner.result (c.in_ok-store_reads.ensures.store_reads.value h)
    c.read_set.ensures c.owner-owner.ensures))
    ∙ c.in_ok-plan.ensures.plan)))
