-- The log of a worker: which acts it may make one after the other, and what they make of it.
-- Cited by Follows, Growth, Merge, OneRun, Renamed, Survive, specs/Legal; other crates.
use Rattle.std.specs.Prelude.{◌≡◌, ℕ, suc, Option, Some, None, List, [], ◌∷◌, ◌++◌, length}
use Rattle.kt_tuple.specs.declared.op.Op.{Op}
use Rattle.kt_tuple.specs.declared.op.Answer.{Answer}
use Rattle.kt_history.specs.declared.note.Act.{Act}
use Rattle.kt_history.specs.declared.note.What.{What}
use Rattle.kt_history.specs.declared.note.What.TheVariants as whats

-- what a worker's acts make of it: its answers so far, and what it asked that is unanswered
pub record MadeWorker : Type 0 where
  pub answers : List Answer
  pub asked : Option Op

-- what is unanswered is a request of this number and operation
abbrev pub Awaits : ℕ → Op → MadeWorker → Type 0
Awaits number op x = (number ≡ suc (length x.answers)) × (x.asked ≡ Some op)

-- the act a, of this kind, is one that a worker may make whose next operation after a list of answers is asks
abbrev pub WorkerMay : (List Answer → Option Op) → MadeWorker → Act → What → Type 0
WorkerMay asks x a whats.Issue = (x.asked ≡ None) × (a.number ≡ suc (length x.answers)) × (asks x.answers ≡ Some a.op)
WorkerMay asks x a whats.Repeat = Awaits a.number a.op x
WorkerMay asks x a (whats.Accepted answer) = Awaits a.number a.op x
WorkerMay asks x a (whats.Ignored (Some answer)) = ¬ Awaits a.number a.op x
WorkerMay asks x a _ = ⊥

-- the state after the act
abbrev pub worker_after_what : MadeWorker → Act → What → MadeWorker
worker_after_what x a whats.Issue = record { answers = x.answers; asked = Some a.op }
worker_after_what x a (whats.Accepted answer) = record { answers = x.answers ++ answer ∷ []; asked = None }
worker_after_what x a _ = x

abbrev pub worker_after : MadeWorker → Act → MadeWorker
worker_after x a = worker_after_what x a a.what

-- the worker w may make the act: it is about its own request, and as its script asks
abbrev pub WorkerMakes : (List Answer → Option Op) → ℕ → MadeWorker → Act → Type 0
WorkerMakes asks w x a = (a.worker ≡ w) × WorkerMay asks x a a.what

-- from the state x, the worker w may make these acts one after the other
abbrev pub WorkerLog : (List Answer → Option Op) → ℕ → MadeWorker → List Act → Type 0
WorkerLog asks w x [] = Unit {0}
WorkerLog asks w x (a ∷ later) = WorkerMakes asks w x a × WorkerLog asks w (worker_after x a) later

-- the state that the acts lead to
abbrev pub worker_of_acts : MadeWorker → List Act → MadeWorker
worker_of_acts x [] = x
worker_of_acts x (a ∷ later) = worker_of_acts (worker_after x a) later

-- nothing answered, nothing asked
abbrev pub new_worker : MadeWorker
new_worker = record { answers = []; asked = None }
