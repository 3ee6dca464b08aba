-- When a worker stands as its answers so far say.
-- Cited by Fits, Requests, laws.rt, worker.rt; other crates.
use Rattle.std.specs.Prelude.{◌≡◌, ℕ, suc, List, length, Option, None, Some, IfSome}
use Rattle.kt_tuple.specs.declared.op.Op.{Op}
use Rattle.kt_tuple.specs.declared.op.Answer.{Answer}
use Rattle.kt_script.specs.declared.next.Next.{Next}
use Rattle.kt_script.specs.declared.command.Command.{Command}
use Rattle.kt_script.specs.Asks.{asks}
use Rattle.kt_script.specs.Next.{Position, next_at, position_after}
use Rattle.kt_worker.specs.WorkerModel.{WorkerModel, behind}

-- the number of the last request, where so many are answered
abbrev pub last_number : Option Op → ℕ → ℕ
last_number None answered = answered
last_number (Some op) answered = suc answered

abbrev pub behind_next : Position → Option Next → Position
behind_next position None = position
behind_next position (Some next) = behind next

-- the position of a worker, which is behind the next operation where that was asked for
abbrev pub position_when : Option Op → List Command → List Answer → Position
position_when None script answers = position_after script answers
position_when (Some op) script answers =
    behind_next (position_after script answers) (next_at script (position_after script answers))

-- the worker was answered so, and what is unanswered is what the script asks then
pub record IsAfter (script : List Command) (answers : List Answer) (w : WorkerModel) : Type 0 where
  pub number : w.number ≡ last_number w.asked (length answers)
  pub asked : IfSome w.asked (λ op. asks script answers ≡ Some op)
  pub position : w.position ≡ position_when w.asked script answers
