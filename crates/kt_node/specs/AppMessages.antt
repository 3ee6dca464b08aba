-- The table of arrivals, its part of the underlying messages.
-- Cited by Acting, app_messages.rt, laws.rt, short_plan.rt; other crates.
use Rattle.std.specs.Prelude.{[], Option, None, Some, Ok}
use Rattle.kt_tuple.specs.declared.node.NodeId.{NodeId}
use Rattle.kt_state.specs.declared.message.AppMessage.{AppMessage}
use Rattle.kt_state.specs.declared.live.Phase.{Phase}
use Rattle.kt_state.specs.declared.live.Phase.TheVariants as phases
use Rattle.kt_state.specs.declared.change.KeptChange.TheVariants as keeps
use Rattle.kt_state.specs.declared.change.Change.TheVariants as changes
use Rattle.kt_state.specs.declared.plan.Plan.{Plan}
use Rattle.kt_state.specs.Node.{Live, Node, Down, Alive}
use Rattle.kt_node.specs.View.{View}
use Rattle.kt_state.specs.Plan.{Planned, empty_plan}
use Rattle.kt_state.specs.Updating.{no_update}
use Rattle.kt_node.specs.Talking.{heard_plan}
use Rattle.kt_state.specs.Kept.{first_kept}

-- it is put behind what is kept
abbrev pub keep_plan : NodeId → AppMessage → Plan
keep_plan from app = record {
  change = changes.Update record no_update { kept = keeps.Append from app };
  send = [];
  note = None;
  write = None;
}

-- a node that is up hears it where nothing is kept
abbrev pub app_when_up : View → Live → NodeId → AppMessage → Option (NodeId × AppMessage) → Plan
app_when_up v n from app None = heard_plan v n keeps.Stay from app
app_when_up v n from app (Some first) = keep_plan from app

-- a held node keeps it, a rolling node drops it
abbrev pub app_in : View → Live → NodeId → AppMessage → Phase → Plan
app_in v n from app phases.Up = app_when_up v n from app (first_kept n)
app_in v n from app (phases.Held b) = keep_plan from app
app_in v n from app (phases.Rolling b) = empty_plan

-- a node that is down drops it
abbrev pub app_plan : View → NodeId → AppMessage → Node → Plan
app_plan v from app Down = empty_plan
app_plan v from app (Alive n) = app_in v n from app n.phase

abbrev pub hear_app : View → NodeId → AppMessage → Planned
hear_app v from app = Ok (app_plan v from app v.node)
