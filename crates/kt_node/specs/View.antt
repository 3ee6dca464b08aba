-- What the owner of a step sees.
-- Cited by Acting, app_messages.rt, arrivals.rt, at_once.rt, deciding.rt, failing.rt, hearing.rt, joining.rt,
--   laws.rt, learning.rt, short_plan.rt, specs/AppMessages, specs/Arrivals, specs/Deciding, specs/Failing,
--   specs/Joining, specs/Learning, specs/Loading, specs/Saving, specs/Speaking, specs/Steps, specs/Talking, steps.rt,
--   talking.rt and 1 more; other crates.
use Rattle.std.specs.Prelude.{ℕ, ◌+◌, List, length}
use Rattle.kt_history.specs.Log.{log}
use Rattle.kt_ckpt.specs.declared.acts.LogAct.{LogAct}
use Rattle.kt_ckpt.specs.LogActs.{log_acts}
use Rattle.kt_node.specs.declared.view.View.{View as ViewCode}
use Rattle.kt_state.specs.Node.{Role, Node}
use Rattle.kt_state.specs.Views.{role_view}

-- who it is, what it is, the number of the next note, how many acts it remembers, and these as a checkpoint holds them
pub record View : Type 0 where
  pub role : Role
  pub node : Node
  pub next : ℕ
  pub line_len : ℕ
  pub acts : List LogAct

abbrev pub view_of : ViewCode → View
view_of v = record {
  role = role_view v.role;
  node = v.node.now.node;
  next = length v.past.now.notes + 1;
  line_len = length (log v.past.now.notes v.role.id);
  acts = log_acts v.past.now.notes v.role.id;
}
