use Rattle.std.proofs.Common.{◌++◌, List, [], ap, ◌∙◌}
use Rattle.kt_trace.specs.declared.traced.Traced.{Traced}
use Rattle.kt_trace.specs.Rows.{trace_from}
use Rattle.kt_page.proofs.watch.watch_steps.Goals as goal

pub returns-in-Ok-clause-entries : goal.returns-in-Ok-clause-entries
returns-in-Ok-clause-entries c =
    c.in-Ok.ensures.entries
    ∙ ap (λ (xs : List Traced). xs ++ trace_from [] 1 c.args.world.now.state c.args.steps.now) c.new-entries.ensures.items
