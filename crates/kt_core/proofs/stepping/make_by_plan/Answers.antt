use Rattle.std.proofs.Common.{ap, subst, sym, ◌∙◌}
use Rattle.kt_store.specs.Content.{empty_content}
use Rattle.kt_model.specs.Effect.{applied}
use Rattle.kt_model.specs.auxiliary.Ready.{CanApply, IsReady}
use Rattle.kt_model.specs.State.{State}
use Rattle.kt_scenario.specs.Step.{owner}
use Rattle.kt_model.specs.Writing.{content_after}
use Rattle.kt_core.specs.auxiliary.Machine.{state_of}
use Rattle.kt_model.specs.declared.error.StepError.{StepError}
use Rattle.kt_core.specs.Stepping.{IsCalledFor, IsCause}
use Rattle.kt_core.specs.World.{beside}
use Rattle.kt_core.proofs.Steps.{allowed, called-write, effect, on-error, on-refusal, read-caused, ready-beside, write-caused}
use Rattle.kt_core.proofs.stepping.make_by_plan.Goals as goal

pub returns-in_err-plan-clause-ready : goal.returns-in_err-plan-clause-ready
returns-in_err-plan-clause-ready g c = let P : State → Type 0 = IsReady in subst P (sym (c.in_err-plan.ensures.same empty_content)) c.requires.ready

pub returns-in_err-plan-clause-same : goal.returns-in_err-plan-clause-same
returns-in_err-plan-clause-same g c = on-error _ _ (c.in_err-plan.ensures.same empty_content)

pub carry_out-requires-clause-ready : goal.carry_out-requires-clause-ready
carry_out-requires-clause-ready g c = let P : State → Type 0 = IsReady in subst P (sym (c.in_ok-plan.ensures.same empty_content)) c.requires.ready

pub carry_out-requires-clause-can : goal.carry_out-requires-clause-can
carry_out-requires-clause-can g c =
    let P : State → Type 0 = λ s. CanApply s (owner c.args.step) c.in_ok-plan.plan in
    subst P (sym (c.in_ok-plan.ensures.same empty_content)) c.in_ok-plan.ensures.can

pub write-requires : goal.write-requires
write-requires g c = record {
  allowed = λ h.
      allowed (state_of c.args.machine.now (g.S.CkptStore.content c.args.store.now)) c.args.step c.in_ok-plan.plan
      (g.S.CkptStore.content c.prepare.new.store) c.owner.result
      (c.requires.backed (c.in_ok-plan.ensures.honest h)) (c.in_ok-plan.ensures.plan h) (c.in_ok-plan.ensures.content h) c.owner.ensures;
}

pub returns-in_err-plan-clause-cause : goal.returns-in_err-plan-clause-cause
returns-in_err-plan-clause-cause g c =
    let content = g.S.CkptStore.content c.prepare.new.store in
    let honest = g.S.CkptStore.is_honest c.prepare.new.store in
    let Caused : StepError → Type 0 = IsCause (state_of c.prepare.new.machine content) c.args.step honest in
    let At : State → Type 0 = λ s. IsCause s c.args.step honest c.in_err-plan.field-0.0 in
    on-refusal c.from_residual.result _ Caused c.from_residual.ensures.1
    (λ e is. subst Caused (sym is) (subst At (sym (c.in_err-plan.ensures.same content))
    (read-caused (state_of c.args.machine.now empty_content) content c.args.step honest c.in_err-plan.field-0.0 c.in_err-plan.ensures.cause)))

pub returns-in_err-write-clause-cause : goal.returns-in_err-write-clause-cause
returns-in_err-write-clause-cause g c =
    let old = state_of c.args.machine.now (g.S.CkptStore.content c.args.store.now) in
    let new = state_of c.prepare.new.machine (g.S.CkptStore.content c.write.new.store) in
    let honest = g.S.CkptStore.is_honest c.write.new.store in
    let Caused : StepError → Type 0 = IsCause new c.args.step honest in
    on-refusal c.from_residual-in_err-write.result _ Caused c.from_residual-in_err-write.ensures.1
    (λ e is. subst Caused (sym is) (write-caused old new c.args.step (g.S.CkptStore.content c.prepare.new.store) c.owner.result honest c.in_err-write.field-0.0
    c.in_err-write.ensures.written.cause c.owner.ensures (λ h. c.in_ok-plan.ensures.content (c.write.ensures.written.honest h))
    c.in_err-write.ensures.written.unchanged (ap (λ (s : State). s.found) (c.in_ok-plan.ensures.same empty_content))
    (ready-beside (state_of c.args.machine.now empty_content) (g.S.CkptStore.content c.args.store.now) c.requires.ready)
    (λ h. c.requires.backed (c.in_ok-plan.ensures.honest (c.write.ensures.written.honest h)))))

pub returns-in_err-write-clause-ready : goal.returns-in_err-write-clause-ready
returns-in_err-write-clause-ready g c = let P : State → Type 0 = IsReady in subst P (sym (c.in_ok-plan.ensures.same empty_content)) c.requires.ready

pub returns-in_err-write-clause-same : goal.returns-in_err-write-clause-same
returns-in_err-write-clause-same g c = on-error _ _ (c.in_ok-plan.ensures.same empty_content)

pub returns-in_err-write-clause-called : goal.returns-in_err-write-clause-called
returns-in_err-write-clause-called g c =
    let s = state_of c.args.machine.now (g.S.CkptStore.content c.args.store.now) in
    let Called : StepError → Type 0 = IsCalledFor s c.args.step in
    λ h. on-refusal c.from_residual-in_err-write.result _ Called c.from_residual-in_err-write.ensures.1
    (λ e is. subst Called (sym is) (called-write s c.args.step c.in_ok-plan.plan c.in_err-write.field-0.0
    (c.in_ok-plan.ensures.plan (c.write.ensures.written.honest h)) (λ none. absurd (cc (c.in_err-write.ensures.quiet none)))))

pub returns-clause-ready : goal.returns-clause-ready
returns-clause-ready g c =
    let P : State → Type 0 = IsReady in
    let Q : State → Type 0 = λ s. IsReady (applied s c.args.step c.in_ok-plan.plan) in
    let there = subst P (sym (c.carry_out.ensures empty_content)) (subst Q (sym (c.in_ok-plan.ensures.same empty_content)) c.in_ok-plan.ensures.leads) in
    ready-beside (state_of c.carry_out.new.self (content_after (owner c.args.step) c.in_ok-plan.plan.write empty_content)) empty_content there

pub returns-clause-effect : goal.returns-clause-effect
returns-clause-effect g c =
    λ h. effect c.args.machine.now c.prepare.new.machine c.carry_out.new.self (g.S.CkptStore.content c.args.store.now)
    (g.S.CkptStore.content c.prepare.new.store) (g.S.CkptStore.content c.write.new.store)
    c.args.step c.in_ok-plan.plan c.owner.result (c.in_ok-plan.ensures.plan (c.write.ensures.written.honest h)) c.in_ok-plan.ensures.same
    (c.in_ok-plan.ensures.content (c.write.ensures.written.honest h)) c.owner.ensures
    (c.in_ok-write.ensures.written.made h) c.carry_out.ensures

pub returns-clause-by_plan : goal.returns-clause-by_plan
returns-clause-by_plan g c = record {
  store_reads = c.in_ok-plan.ensures.store_reads.0;
  plan = c.in_ok-plan.plan;
  is = c.in_ok-plan.ensures.store_reads.1;
  leads = ap beside (c.carry_out.ensures empty_content)
      ∙ ap (λ (s : State). beside (applied s c.args.step c.in_ok-plan.plan)) (c.in_ok-plan.ensures.same empty_content);
}
