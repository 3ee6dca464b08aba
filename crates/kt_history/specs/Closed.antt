-- Choices of acts that hold the whole past of each of their acts (Koo and Toueg, "Checkpointing and
-- Rollback-Recovery for Distributed Systems": a consistent set).
-- Cited by Fronts, Survivors, history.rt, laws.rt; other crates.
use Rattle.std.specs.Prelude.{◌≡◌, ℕ, Bool, IsTrue, List, ◌++◌, Option, None, Some, filter, Contains}
use Rattle.std.specs.List.{filter_map}
use Rattle.kt_tuple.specs.declared.node.NodeId.{NodeId}
use Rattle.kt_history.specs.declared.note.Act.{Act}
use Rattle.kt_history.specs.declared.note.Note.{Note}
use Rattle.kt_history.specs.declared.note.Note.TheVariants as notes
use Rattle.kt_history.specs.Log.{note_at, log, same_node}
use Rattle.kt_history.specs.Past.{StoodBefore, IsCauseOf}
use Rattle.kt_history.specs.Survival.{Stands}

-- each marked act stands in a log, and with it all that stood before it and its cause are marked
pub record IsClosed (h : List Note) (marks : ℕ → Bool) : Type 0 where
  pub stands : (n : ℕ) → IsTrue (marks n) → Stands h n
  pub below : (g n : ℕ) → IsTrue (marks n) → StoodBefore h g n → IsTrue (marks g)
  pub cause : (g n : ℕ) → IsTrue (marks n) → IsCauseOf h g n → IsTrue (marks g)

-- the marked numbers in the log of p are its first, and the rest of it is not marked
pub record IsFront (h : List Note) (marks : ℕ → Bool) (p : NodeId) : Type 0 where
  pub front : List ℕ
  pub rest : List ℕ
  pub split : log h p ≡ front ++ rest
  pub marked : (n : ℕ) → Contains front n → IsTrue (marks n)
  pub unmarked : (n : ℕ) → Contains rest n → ¬ IsTrue (marks n)

-- the act of this number, if it names one
abbrev pub act_of : Option Note → Option Act
act_of None = None
act_of (Some (notes.Act a)) = Some a
act_of (Some (notes.Cut p keep)) = None

-- the acts of these numbers
abbrev pub acts_at : List Note → List ℕ → List Act
acts_at h numbers = filter_map (λ n. act_of (note_at h n)) numbers

-- the acts in a node's log
abbrev pub acts_in_log : List Note → NodeId → List Act
acts_in_log h p = acts_at h (log h p)

-- the node's own acts among these
abbrev pub own : NodeId → List Act → List Act
own p acts = filter (λ a. same_node a.node p) acts
