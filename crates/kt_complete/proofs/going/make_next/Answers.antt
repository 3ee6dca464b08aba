use Rattle.std.proofs.Common.{ap, ◌∙◌}
use Rattle.std.specs.Prelude.{None, Option, Some}
use Rattle.kt_scenario.specs.declared.step.Step.{Step}
use Rattle.kt_complete.specs.Completion.{in_asking, next_of_all}
use Rattle.kt_complete.proofs.Onward.{next_is, next_made, next_refused, one_more, refused_counted}
use Rattle.kt_complete.proofs.going.make_next.Goals as goal

pub returns-in-Ok-step-clause-made : goal.returns-in-Ok-step-clause-made
returns-in-Ok-step-clause-made g c =
    let asked = c.in-Ok.ensures in
    next_made c.args.world.now c.next_among.new.world c.step.new.self c.in-Some.step
    (λ h. next_is c.args.world.now.state _ c.in-Ok.next (Some c.in-Some.step) c.in-Some.is c.new-none.ensures (asked.value h))
    asked.same c.step.ensures.honest (λ h. c.in-Ok-step.ensures.effect h)

pub returns-in-Ok-step-clause-more : goal.returns-in-Ok-step-clause-more
returns-in-Ok-step-clause-more g c =
    one_more c.args.world.now c.next_among.new.world c.step.new.self c.in-Some.step c.in-Ok-step.ensures.by_plan c.in-Ok-step.ensures.made
    c.in-Ok.ensures.beside

-- the step that is next is refused
pub returns-in-Some-clause-held_up : goal.returns-in-Some-clause-held_up
returns-in-Some-clause-held_up g c =
    let asked = c.in-Ok.ensures in
    next_refused c.args.world.now c.next_among.new.world c.step.new.self c.in-Some.step c.in-Err-step.cause
    (λ h. next_is c.args.world.now.state _ c.in-Ok.next (Some c.in-Some.step) c.in-Some.is c.new-none.ensures (asked.value h))
    asked.same c.step.ensures.honest (λ h. c.in-Err-step.ensures.same h) (λ h. c.in-Err-step.ensures.refusal h) c.in-Err-step.ensures.cause

pub returns-in-Some-clause-counts : goal.returns-in-Some-clause-counts
returns-in-Some-clause-counts g c =
    refused_counted (Unit {0}) (Option Step) c.in-Err-step.cause c.args.world.now.counts c.next_among.new.world.counts c.step.new.self.counts
    c.in-Err-step.ensures.counts c.in-Ok.ensures.counts

-- no node has a next step
pub returns-in-Ok-clause-made : goal.returns-in-Ok-clause-made
returns-in-Ok-clause-made g c = λ h.
    let asked = c.in-Ok.ensures in (
      asked.same h,
      ap next_of_all (asked.same h) ∙ next_is c.args.world.now.state _ c.in-Ok.next None c.in-None.is c.new-none.ensures (asked.value h),
    )

-- the store refuses when it is asked what is next
pub returns-clause-held_up : goal.returns-clause-held_up
returns-clause-held_up g c = in_asking c.in-Err.ensures.cause
