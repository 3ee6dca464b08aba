-- Whether a worker may ask for its next operation, as far as the worker itself tells.
-- Cited by policy.rt.
use Rattle.std.specs.Prelude.{Bool, false, not, is_some, Option, None, Some}
use Rattle.kt_worker.specs.declared.worker.Worker.{Worker}
use Rattle.kt_worker.specs.WorkerModel.{again_request}

-- there is a worker, and it has nothing unanswered
abbrev pub may_issue : Option Worker → Bool
may_issue None = false
may_issue (Some x) = not (is_some (again_request x))
