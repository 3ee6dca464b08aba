-- The cause of a service: that of the hearing which put the request in waiting.
-- Cited by Hearings, NamedCauses, Traces; other crates.
use Rattle.std.specs.Prelude.{ℕ, ◌==◌, Bool, true, false, ◌&&◌, find, reverse, List, Option, None, Some}
use Rattle.kt_tuple.specs.declared.node.NodeId.{NodeId}
use Rattle.kt_history.specs.declared.note.What.{What}
use Rattle.kt_history.specs.declared.note.What.TheVariants as whats
use Rattle.kt_history.specs.declared.note.Act.{Act}
use Rattle.kt_history.specs.declared.note.Note.{Note}
use Rattle.kt_history.specs.Log.{log}
use Rattle.kt_history.specs.Closed.{acts_at}

-- the act is the hearing of a request of the worker with this number
abbrev pub is_hearing : What → Bool
is_hearing whats.Heard = true
is_hearing _ = false

abbrev pub hears_worker : ℕ → Act → Bool
hears_worker worker a = is_hearing a.what && (a.worker == worker)

abbrev pub cause_of : Option Act → ℕ
cause_of None = 0
cause_of (Some a) = a.by

-- the cause of the last hearing of the worker among the acts of these numbers
abbrev pub cause_among : List Note → List ℕ → ℕ → ℕ
cause_among h numbers worker = cause_of (find (hears_worker worker) (reverse (acts_at h numbers)))

-- the cause of the hearing that put the worker's request in waiting: the last hearing in the shard's log
abbrev pub cause_of_waiting : List Note → NodeId → ℕ → ℕ
cause_of_waiting h p worker = cause_among h (log h p) worker
