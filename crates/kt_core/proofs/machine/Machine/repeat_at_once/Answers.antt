-- Of `Machine::repeat_at_once` in src/at_once.rt.
use Rattle.std.proofs.Common.{subst, sym}
use Rattle.kt_node.specs.AtOnce.{again_plan, said_plan}
use Rattle.kt_store.specs.Content.{empty_content}
use Rattle.kt_scenario.specs.declared.step.Step.TheVariants as steps
use Rattle.kt_model.specs.auxiliary.Ready.{IsReady}
use Rattle.kt_model.specs.State.{State}
use Rattle.kt_core.proofs.AtOnce.{can-at-once, enabled-at-once, made-at-once, ready-at-once}
use Rattle.kt_core.proofs.machine.Machine.repeat_at_once.Goals as goal

pub returns-in_err-said-clause-enabled : goal.returns-in_err-said-clause-enabled
returns-in_err-said-clause-enabled c =
    enabled-at-once _ c.args.self.now (steps.Repeat c.args.node) (again_plan c.args.node c.in-Some.again) c.in-Some.ensures

pub say_at_once-requires-clause-can : goal.say_at_once-requires-clause-can
say_at_once-requires-clause-can c =
    can-at-once c.args.self.now (steps.Repeat c.args.node) (again_plan c.args.node c.in-Some.again)
    (said_plan c.args.node c.in_ok-said.said) c.requires c.in-Some.ensures (c.in_ok-said.ensures c.args.node)

pub returns-in_err-say_at_once-clause-ready : goal.returns-in_err-say_at_once-clause-ready
returns-in_err-say_at_once-clause-ready c =
    let P : State → Type 0 = IsReady in subst P (sym (c.in_err-say_at_once.ensures.same empty_content)) c.requires

pub returns-in_err-say_at_once-clause-enabled : goal.returns-in_err-say_at_once-clause-enabled
returns-in_err-say_at_once-clause-enabled c =
    enabled-at-once _ c.args.self.now (steps.Repeat c.args.node) (again_plan c.args.node c.in-Some.again) c.in-Some.ensures

pub returns-clause-ready : goal.returns-clause-ready
returns-clause-ready c =
    ready-at-once c.args.self.now c.say_at_once.new.self (steps.Repeat c.args.node) (again_plan c.args.node c.in-Some.again)
    (said_plan c.args.node c.in_ok-said.said) c.requires c.in-Some.ensures (c.in_ok-said.ensures c.args.node)
    c.in_ok-say_at_once.ensures.made

pub returns-clause-made : goal.returns-clause-made
returns-clause-made c =
    λ yes_made. made-at-once c.args.self.now c.say_at_once.new.self (steps.Repeat c.args.node) (again_plan c.args.node c.in-Some.again)
    (said_plan c.args.node c.in_ok-said.said) c.in-Some.ensures (c.in_ok-said.ensures c.args.node)
    c.in_ok-say_at_once.ensures.made
