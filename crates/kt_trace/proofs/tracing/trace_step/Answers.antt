use Rattle.kt_trace.proofs.Stepped.{made_entry}
use Rattle.kt_trace.proofs.tracing.trace_step.Goals as goal

pub returns-in_ok-row-in-Ok-clause-entry : goal.returns-in_ok-row-in-Ok-clause-entry
returns-in_ok-row-in-Ok-clause-entry c =
    made_entry c.args.number c.args.line c.args.world.now.state c.args.step c.make.new.world.state c.in_ok-before.before c.in_ok-row-in-Ok.row
    c.in_ok-before.ensures c.in_ok-row-in-Ok.ensures c.in-Ok.ensures.made
