-- Plans as plain data.
-- Cited by plan.rt; other crates.
use Rattle.std.specs.Prelude.{[], None, Result}
use Rattle.kt_state.specs.declared.change.Change.TheVariants as changes
use Rattle.kt_state.specs.declared.refusal.Refusal.{Refusal}
use Rattle.kt_state.specs.declared.plan.Plan.{Plan}

-- the plan of a step, or why it is not made
abbrev pub Planned : Type 0
Planned = Result Plan Refusal

-- nothing is done: a message is dropped
abbrev pub empty_plan : Plan
empty_plan = record { change = changes.Stay; send = []; note = None; write = None }
