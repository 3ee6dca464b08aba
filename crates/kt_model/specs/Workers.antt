-- Each worker stands as its log says.
-- Cited by Following, Lasting, laws.rt; other crates.
use Rattle.std.specs.Prelude.{◌≡◌, ℕ, Some}
use Rattle.kt_tuple.specs.declared.node.NodeId.TheVariants as ids
use Rattle.kt_history.specs.Closed.{acts_in_log}
use Rattle.kt_worker.specs.declared.worker.Worker.{Worker}
use Rattle.kt_worker.specs.After.{IsAfter}
use Rattle.kt_logs.specs.WorkerLog.{MadeWorker, worker_of_acts, new_worker}
use Rattle.kt_state.specs.Node.{worker_of}
use Rattle.kt_model.specs.State.{State, view}
use Rattle.kt_model.specs.Asks.{script_numbered}

-- what the log of the worker with this number makes of it
abbrev pub made_in_log : State → ℕ → MadeWorker
made_in_log s w = worker_of_acts new_worker (acts_in_log s.history (ids.Worker w))

-- each worker that is not down has unanswered what its log says, and stands in its script as after the answers in its
-- log
abbrev pub WorkersFollowLogs : State → Type 0
WorkersFollowLogs s =
    (w : ℕ) (x : Worker) → worker_of (view s (ids.Worker w)).node ≡ Some x →
    (x.asked ≡ (made_in_log s w).asked) × IsAfter (script_numbered s.scene.scripts w) (made_in_log s w).answers x
