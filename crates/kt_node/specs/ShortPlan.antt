-- The short plan of a frequent step, as the plan that it stands for.
-- Cited by short_plan.rt; other crates.
use Rattle.std.specs.Prelude.{None, option_to_list}
use Rattle.kt_state.specs.declared.change.Change.TheVariants as changes
use Rattle.kt_state.specs.ShortUpdate.{update_of}
use Rattle.kt_node.specs.declared.short_plan.ShortPlan.{ShortPlan}
use Rattle.kt_state.specs.declared.plan.Plan.{Plan}

-- the plan that it stands for
abbrev pub plan_of : ShortPlan → Plan
plan_of short = record {
  change = changes.Update (update_of short.update);
  send = option_to_list short.send;
  note = short.note;
  write = None;
}
