use Rattle.kt_logs.proofs.Shared.{heard_here, not_heard, no_act}
use Rattle.kt_core.proofs.causes.cause_of_waiting.Goals as goal

pub returns-then-hears : goal.returns-then-hears
returns-then-hears c =
    heard_here c.args.history.now.notes c.in-Some.before.now c.in-Some.number.now c.loop-number.rest.now c.args.worker c.in-Some-act.act.now _
    c.in-Some.ensures.cases.0 c.in-Some-act.ensures
    c.if-hears.ensures c.loop-number.invariant

pub loop-number-preserved-else-hears : goal.loop-number-preserved-else-hears
loop-number-preserved-else-hears c =
    not_heard c.args.history.now.notes c.in-Some.before.now c.in-Some.number.now c.loop-number.rest.now c.args.worker c.in-Some-act.act.now _
    c.in-Some.ensures.cases.0 c.in-Some-act.ensures
    c.if-hears.ensures c.loop-number.invariant

pub loop-number-preserved : goal.loop-number-preserved
loop-number-preserved c =
    no_act c.args.history.now.notes c.in-Some.before.now c.in-Some.number.now c.loop-number.rest.now c.args.worker _ c.in-Some.ensures.cases.0
    c.in_default-act.ensures c.loop-number.invariant
