-- The table of steps, its part of the underlying computation: what a node may do of itself, and why it may not. Of
-- several refusals the lowest is given.
-- Cited by Acting, at_once.rt, laws.rt, short_plan.rt, specs/Speaking, steps.rt; other crates.
use Rattle.std.specs.Prelude.{ℕ, Option, None, Some, Result, Ok, Err}
use Rattle.kt_tuple.specs.declared.node.NodeId.{NodeId}
use Rattle.kt_tuple.specs.declared.op.Op.{Op}
use Rattle.kt_worker.specs.declared.worker.Worker.{Worker}
use Rattle.kt_worker.specs.WorkerModel.{next_request, again_request, issued}
use Rattle.kt_shard.specs.declared.error.ServeError.{ServeError}
use Rattle.kt_shard.specs.declared.error.ServeError.TheVariants as unserved
use Rattle.kt_shard.specs.Shard.{Shard}
use Rattle.kt_shard.specs.Service.{Service, service}
use Rattle.kt_state.specs.declared.message.AppMessage.{AppMessage}
use Rattle.kt_state.specs.declared.live.Phase.{Phase}
use Rattle.kt_state.specs.declared.live.Phase.TheVariants as phases
use Rattle.kt_state.specs.declared.change.KeptChange.TheVariants as keeps
use Rattle.kt_state.specs.declared.refusal.Refusal.{Refusal}
use Rattle.kt_state.specs.declared.refusal.Refusal.TheVariants as refusals
use Rattle.kt_state.specs.Node.{Live, Node, Down, Alive, worker_in, shard_in}
use Rattle.kt_state.specs.Kept.{first_kept}
use Rattle.kt_node.specs.View.{View}
use Rattle.kt_state.specs.Plan.{Planned}
use Rattle.kt_node.specs.Talking.{issue_plan, repeat_plan, service_plan, heard_plan}

-- the node, where it is up
abbrev pub up_in : Live → Phase → Option Live
up_in n phases.Up = Some n
up_in n (phases.Held b) = None
up_in n (phases.Rolling b) = None

abbrev pub up_of : Node → Option Live
up_of Down = None
up_of (Alive n) = up_in n n.phase

-- what only a node that is up does
abbrev pub by_up : Option Live → (Live → Planned) → Planned
by_up None plan = Err refusals.WrongMode
by_up (Some n) plan = plan n

abbrev pub while_up : Node → (Live → Planned) → Planned
while_up node plan = by_up (up_of node) plan

-- ---- issue: nothing unanswered, nothing kept, an operation left

abbrev pub issue_found : View → Live → Worker → Option (ℕ × Op) → Planned
issue_found v n x None = Err refusals.NothingThere
issue_found v n x (Some r) = Ok (issue_plan v n r (issued v.role.script x))

abbrev pub issue_unless_kept : View → Live → Worker → Option (NodeId × AppMessage) → Planned
issue_unless_kept v n x None = issue_found v n x (next_request v.role.script x)
issue_unless_kept v n x (Some first) = Err refusals.NothingThere

abbrev pub issue_by : View → Live → Option Worker → Planned
issue_by v n None = Err refusals.WrongMode
issue_by v n (Some x) = issue_unless_kept v n x (first_kept n)

abbrev pub issue : View → Planned
issue v = while_up v.node (λ n. issue_by v n (worker_in n.body))

-- ---- repeat: a request unanswered

abbrev pub repeat_found : View → Live → Option (ℕ × Op) → Planned
repeat_found v n None = Err refusals.NothingThere
repeat_found v n (Some r) = Ok (repeat_plan v n r)

abbrev pub repeat_by : View → Live → Option Worker → Planned
repeat_by v n None = Err refusals.WrongMode
repeat_by v n (Some x) = repeat_found v n (again_request x)

abbrev pub repeat : View → Planned
repeat v = while_up v.node (λ n. repeat_by v n (worker_in n.body))

-- ---- take: something kept

abbrev pub take_first : View → Live → Option (NodeId × AppMessage) → Planned
take_first v n None = Err refusals.NothingThere
take_first v n (Some first) = Ok (heard_plan v n keeps.TakeFirst first.0 first.1)

abbrev pub take : View → Planned
take v = while_up v.node (λ n. take_first v n (first_kept n))

-- ---- serve: the worker waits, and the match is there

abbrev pub unserved_as : ServeError → Refusal
unserved_as unserved.NotWaiting = refusals.NothingThere
unserved_as unserved.NoSuchMatch = refusals.NoSuchMatch
unserved_as unserved.OutOfMemory = refusals.NothingThere

abbrev pub serve_found : View → Live → ℕ → ℕ → Result Service ServeError → Planned
serve_found v n worker by (Ok s) = Ok (service_plan v n worker by s)
serve_found v n worker by (Err refusal) = Err (unserved_as refusal)

abbrev pub serve_by : View → Live → ℕ → ℕ → ℕ → Option Shard → Planned
serve_by v n worker place by None = Err refusals.WrongMode
serve_by v n worker place by (Some y) = serve_found v n worker by (service y worker place)

-- the worker of this number, with the match of this place; `by` is the cause of the hearing that put it in waiting
abbrev pub serve : View → ℕ → ℕ → ℕ → Planned
serve v worker place by = while_up v.node (λ n. serve_by v n worker place by (shard_in n.body))
