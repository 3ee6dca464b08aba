use Rattle.std.proofs.Common.{take}
use Rattle.kt_tuple.specs.declared.node.NodeId.TheVariants as ids
use Rattle.kt_history.specs.Closed.{acts_at}
use Rattle.kt_history.specs.Log.{log}
use Rattle.kt_script.specs.Asks.{asks}
use Rattle.kt_logs.specs.WorkerLog.{WorkerLog, new_worker, worker_of_acts}
use Rattle.kt_model.specs.Like.{IsWorkerLike}
use Rattle.kt_resume.proofs.worker.remake_worker.Given as goal

-- the worker made the acts that were looked at
abbrev pub invariant-loop-number : goal.invariant-loop-number
invariant-loop-number l = record {
  legal : WorkerLog (asks l.script) l.name new_worker (acts_at l.history.notes (take l.number-index (log l.history.notes (ids.Worker l.name))));
  like : IsWorkerLike l.script (worker_of_acts new_worker (acts_at l.history.notes (take l.number-index (log l.history.notes (ids.Worker l.name))))) l.worker;
}
