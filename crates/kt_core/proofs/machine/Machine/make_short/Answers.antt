-- Of `Machine::make_short` in src/short_plans.rt.
use Rattle.std.proofs.Common.{◌∙◌, ap, subst, sym}
use Rattle.kt_node.specs.ShortPlan.{plan_of}
use Rattle.kt_store.specs.Content.{empty_content}
use Rattle.kt_model.specs.Effect.{applied}
use Rattle.kt_model.specs.auxiliary.Ready.{CanApply, IsReady}
use Rattle.kt_model.specs.State.{State}
use Rattle.kt_scenario.specs.Step.{owner}
use Rattle.kt_core.specs.auxiliary.Machine.{state_of, HasRoomFor}
use Rattle.kt_core.proofs.machine.Machine.make_short.Goals as goal

pub make_room_for_short-requires-clause-can : goal.make_room_for_short-requires-clause-can
make_room_for_short-requires-clause-can c =
    subst (λ p. CanApply (state_of c.args.self.now empty_content) p (plan_of c.args.short)) (sym c.owner.ensures) c.requires.can

pub carry_out_short-requires-clause-ready : goal.carry_out_short-requires-clause-ready
carry_out_short-requires-clause-ready c =
    let P : State → Type 0 = IsReady in subst P (sym (c.make_room_for_short.ensures.same empty_content)) c.requires.ready

pub carry_out_short-requires-clause-can : goal.carry_out_short-requires-clause-can
carry_out_short-requires-clause-can c =
    let P : State → Type 0 = λ s. CanApply s (owner c.args.step) (plan_of c.args.short) in
    subst P (sym (c.make_room_for_short.ensures.same empty_content)) c.requires.can

pub carry_out_short-requires-clause-room : goal.carry_out_short-requires-clause-room
carry_out_short-requires-clause-room c =
    subst (λ p. HasRoomFor c.make_room_for_short.new.self p (plan_of c.args.short)) c.owner.ensures c.in-Ok.ensures.room

pub returns-in-Ok-clause-made : goal.returns-in-Ok-clause-made
returns-in-Ok-clause-made c =
    λ held. c.carry_out_short.ensures held
    ∙ ap (λ (s : State). applied s c.args.step (plan_of c.args.short)) (c.make_room_for_short.ensures.same held)
