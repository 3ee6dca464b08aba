use Rattle.std.proofs.Common.{◌≡◌, ℕ, List, ◌∙◌, subst}
use Rattle.std.specs.Prelude.{IfOk}
use Rattle.kt_model.specs.Reached.{opening}
use Rattle.kt_trace.specs.Rows.{trace_from}
use Rattle.kt_look.proofs.telling.trace_of.Goals as goal

pub returns-in-Ok : goal.returns-in-Ok
returns-in-Ok g c =
    subst (λ (lines : List ℕ). IfOk c.trace_with-entries.result (λ entries. entries.items ≡ trace_from lines 1 (opening c.args.scene) c.args.steps.now))
    (c.deref.ensures.value ∙ c.in-Ok.ensures) c.trace_with-entries.ensures
