-- A history is its notes, oldest first, numbered from 1. What a node remembers is its log.
-- Cited by Changes, Fronts, Keeping, KeepingActs, KeepingCuts, Logs, Pasts, Places, Sense, Survivors, history.rt,
--   laws.rt, rows.rt, specs/Closed, specs/Past, specs/Place, specs/Survival, specs/WellFormed, specs/auxiliary/Marks,
--   `History::add_act`; other crates.
use Rattle.std.specs.Prelude.{◌≡◌, ℕ, zero, suc, ◌==◌, Bool, if◌then◌else◌, List, [], ◌∷◌, ◌++◌}
use Rattle.std.specs.Prelude.{◌-◌, length, take, Option, None, Some, slice_get, slice_index}
use Rattle.kt_tuple.specs.declared.node.NodeId.{NodeId}
use Rattle.kt_tuple.specs.Node.{node_index}
use Rattle.kt_history.specs.declared.note.Act.{Act}
use Rattle.kt_history.specs.declared.note.Note.{Note}
use Rattle.kt_history.specs.declared.note.Note.TheVariants as notes

-- the note of this number
abbrev pub note_at : List Note → ℕ → Option Note
note_at h zero = None
note_at h (suc n) = slice_get h n

-- the notes before the one of this number
abbrev pub before : List Note → ℕ → List Note
before h zero = []
before h (suc n) = take n h

-- this number names an act
abbrev pub IsAct : List Note → ℕ → Type 0
IsAct h n = (a : Act) × (note_at h n ≡ Some (notes.Act a))

-- two names are of one node: a test that computes
abbrev pub same_node : NodeId → NodeId → Bool
same_node p q = node_index p == node_index q

-- a node's log once the note of this number came: an act of the node stands at its end, a cut of the
-- node leaves its first so many, all else leaves it
abbrev pub log_step : NodeId → List ℕ → ℕ → Note → List ℕ
log_step p xs n (notes.Act a) = if same_node a.node p then xs ++ n ∷ [] else xs
log_step p xs n (notes.Cut q keep) = if same_node q p then take keep xs else xs

-- a node's log after these notes, the first of which has the number n
unfoldable pub log_from : NodeId → List ℕ → ℕ → List Note → List ℕ
log_from p xs n [] = xs
log_from p xs n (note ∷ later) = log_from p (log_step p xs n note) (suc n) later

-- a node's log: the numbers of its acts that were not cut off, oldest first
unfoldable pub log : List Note → NodeId → List ℕ
log h p = log_from p [] 1 h

-- the number at the end of a log, or 0
abbrev pub last_of : List ℕ → ℕ
last_of numbers = slice_index numbers (length numbers - 1)
