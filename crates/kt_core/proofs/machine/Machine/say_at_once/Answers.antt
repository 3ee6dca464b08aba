-- Of `Machine::say_at_once` in src/at_once.rt.
use Rattle.std.proofs.Common.{◌∙◌, ap, subst, sym}
use Rattle.kt_node.specs.AtOnce.{said_plan}
use Rattle.kt_store.specs.Content.{empty_content}
use Rattle.kt_scenario.specs.declared.step.Step.TheVariants as steps
use Rattle.kt_model.specs.Effect.{applied}
use Rattle.kt_model.specs.auxiliary.Ready.{CanApply, IsReady}
use Rattle.kt_model.specs.State.{State}
use Rattle.kt_core.proofs.machine.Machine.say_at_once.Goals as goal

pub say-requires-clause-ready : goal.say-requires-clause-ready
say-requires-clause-ready c =
    let P : State → Type 0 = IsReady in subst P (sym (c.make_room_to_say.ensures.same empty_content)) c.requires.ready

pub say-requires-clause-can : goal.say-requires-clause-can
say-requires-clause-can c =
    let P : State → Type 0 = λ s. CanApply s c.args.node (said_plan c.args.node c.args.said) in
    subst P (sym (c.make_room_to_say.ensures.same empty_content)) c.requires.can

pub returns-clause-made : goal.returns-clause-made
returns-clause-made c =
    λ held. c.say.ensures held
    ∙ ap (λ (s : State). applied s (steps.Repeat c.args.node) (said_plan c.args.node c.args.said)) (c.make_room_to_say.ensures.same held)
