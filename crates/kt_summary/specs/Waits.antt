-- Which workers finished, and which requests wait at which shards.
-- Cited by Listed, laws.rt, waits.rt, `waits::push_all`, `waits::push_waits`, `waits::waiting`.
use Rattle.std.specs.Prelude.{◌≡◌, ℕ, IsTrue, is_some, if◌then◌else◌, List, [], ◌∷◌, Option, None, Some}
use Rattle.std.specs.List.{flat_map}
use Rattle.std.specs.Option.{option_map}
use Rattle.kt_tuple.specs.declared.node.NodeId.{NodeId}
use Rattle.kt_tuple.specs.declared.op.Op.{Op}
use Rattle.kt_tuple.specs.Node.{node_number, all_nodes, all_workers}
use Rattle.kt_script.specs.declared.command.Command.{Command}
use Rattle.kt_worker.specs.declared.worker.Worker.{Worker}
use Rattle.kt_worker.specs.WorkerModel.{is_left}
use Rattle.kt_scenario.specs.Scene.{script_in}
use Rattle.kt_state.specs.declared.node.Mode.{Mode}
use Rattle.kt_state.specs.declared.node.Mode.TheVariants as modes
use Rattle.kt_state.specs.Node.{mode_of}
use Rattle.kt_model.specs.State.{State, node}
use Rattle.kt_core.specs.Lent.{shard, worker}
use Rattle.kt_stage.specs.Policy.{unanswered, waits_in}
use Rattle.kt_summary.specs.declared.waits.WorkerEnd.{WorkerEnd}
use Rattle.kt_summary.specs.declared.waits.WorkerEnd.TheVariants as ends
use Rattle.kt_summary.specs.declared.waits.Wait.{Wait}

-- ---- how a worker stands

-- one that is up: its request is unanswered, or its script goes on, or is at its end
abbrev pub end_up : List Command → Worker → WorkerEnd
end_up script w = if is_some w.asked then ends.Waiting else (if is_left script w then ends.Ready else ends.Finished)

abbrev pub end_in : List Command → Option Worker → Mode → Option WorkerEnd
end_in script w modes.Up = option_map (end_up script) w
end_in script w modes.Held = Some ends.Held
end_in script w modes.Rolling = Some ends.Rolling
end_in script w modes.Down = Some ends.Down

abbrev pub end_with : Option (List Command) → Option Worker → Option Mode → Option WorkerEnd
end_with None w mode = None
end_with (Some script) w None = None
end_with (Some script) w (Some mode) = end_in script w mode

-- a worker of the scene; no other node stands so
abbrev pub worker_end : State → NodeId → Option WorkerEnd
worker_end s p = end_with (script_in s.scene p) (worker s p) (option_map mode_of (node s p))

-- ---- which requests wait

-- it is the number of the worker's unanswered request, and the shard is up and holds that request as waiting
pub record IsWait (s : State) (wait : Wait) : Type 0 where
  pub op : Op
  pub asked : unanswered (worker s wait.worker) ≡ Some (wait.number, op)
  pub waits : IsTrue (waits_in (shard s wait.shard) (node_number wait.worker) (wait.number, op))

-- the number of this request of p, where q holds it as waiting
abbrev pub number_held : State → NodeId → NodeId → Option (ℕ × Op) → Option ℕ
number_held s p q None = None
number_held s p q (Some r) = if waits_in (shard s q) (node_number p) r then Some r.0 else None

-- the number of p's unanswered request, where q holds that as waiting
abbrev pub number_waiting : State → NodeId → NodeId → Option ℕ
number_waiting s p q = number_held s p q (unanswered (worker s p))

abbrev pub wait_of : NodeId → NodeId → Option ℕ → List Wait
wait_of p q None = []
wait_of p q (Some number) = record { worker = p; shard = q; number = number } ∷ []

abbrev pub wait_at : State → NodeId → NodeId → List Wait
wait_at s p q = wait_of p q (number_waiting s p q)

-- of the request of p, at each of these nodes that holds it
unfoldable pub waits_of : State → List NodeId → NodeId → List Wait
waits_of s nodes p = flat_map (wait_at s p) nodes

-- all of them, by their workers and then by their shards, both in node order
abbrev pub all_waits : State → List Wait
all_waits s = flat_map (waits_of s all_nodes) all_workers
