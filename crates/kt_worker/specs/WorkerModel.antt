-- Where a worker stands, and what its requests and their answers make of that.
-- Cited by Fits, Later, Requests, laws.rt, specs/After, specs/Parts, worker.rt, `Worker::has_next`, `Worker::hear`,
--   `Worker::is_done`, `Worker::issue`, `Worker::next`; other crates.
use Rattle.std.specs.Prelude.{ℕ, ◌+◌, ◌==◌, Bool, false, ◌&&◌, ◌||◌, List, Option, None, Some, is_some}
use Rattle.std.specs.Option.{option_map}
use Rattle.kt_tuple.specs.declared.op.Op.{Op}
use Rattle.kt_tuple.specs.declared.op.Answer.{Answer}
use Rattle.kt_tuple.specs.Op.{op_eq}
use Rattle.kt_script.specs.declared.next.Next.{Next}
use Rattle.kt_script.specs.declared.command.Command.{Command}
use Rattle.kt_script.specs.Next.{Position, next_at, op_of_next, bound, opening_position}

-- the number of the last request, what it asks for where it is unanswered, and the position behind the
-- operation that was asked for last
pub record WorkerModel : Type 0 where
  pub number : ℕ
  pub asked : Option Op
  pub position : Position

-- before the first request
abbrev pub opening_model : List Command → WorkerModel
opening_model script = record { number = 0; asked = None; position = opening_position script }

-- what follows, where nothing is unanswered
abbrev pub unless_asked : Option Op → Option Next → Option Next
unless_asked None next = next
unless_asked (Some op) next = None

-- the operation that is asked next: none while a request is unanswered
abbrev pub next_of : List Command → WorkerModel → Option Next
next_of script w = unless_asked w.asked (next_at script w.position)

-- an operation with the number of its request
abbrev pub numbered : ℕ → Option Op → Option (ℕ × Op)
numbered number op = option_map (λ o. (number, o)) op

-- the unanswered request once more: its number and operation
abbrev pub again_request : WorkerModel → Option (ℕ × Op)
again_request w = numbered w.number w.asked

-- the next request: its number and operation
abbrev pub next_request : List Command → WorkerModel → Option (ℕ × Op)
next_request script w = numbered (w.number + 1) (op_of_next (next_of script w))

-- the position behind an operation, before its answer
abbrev pub behind : Next → Position
behind next = record { pc = next.pc; memory = next.env }

-- this is asked, with the next number
abbrev pub asking : WorkerModel → Option Next → WorkerModel
asking w None = w
asking w (Some next) = record { number = w.number + 1; asked = Some next.op; position = behind next }

-- what the next request makes of the worker
abbrev pub issued : List Command → WorkerModel → WorkerModel
issued script w = asking w (next_of script w)

abbrev pub awaits_op : Option Op → ℕ → ℕ → Op → Bool
awaits_op None last number op = false
awaits_op (Some asked) last number op = (last == number) && op_eq asked op

-- the request of this number and operation is unanswered
abbrev pub awaits : WorkerModel → ℕ → Op → Bool
awaits w number op = awaits_op w.asked w.number number op

-- what the answer to the unanswered request makes of the worker: it is bound
abbrev pub heard : List Command → WorkerModel → Answer → WorkerModel
heard script w answer = record {
  number = w.number;
  asked = None;
  position = record { pc = w.position.pc; memory = bound script w.position.pc answer w.position.memory };
}

-- an operation is unanswered, or the script has a next one
abbrev pub is_left : List Command → WorkerModel → Bool
is_left script w = is_some w.asked || is_some (next_at script w.position)
