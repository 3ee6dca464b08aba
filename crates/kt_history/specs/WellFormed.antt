-- The histories that make sense: each cause is an earlier act that sent what was heard.
-- Cited by Changes, Keeping, KeepingActs, KeepingCuts, Pasts, Sense, Survivors, history.rt, laws.rt,
--   specs/auxiliary/Marks; other crates.
use Rattle.std.specs.Prelude.{◌≡◌, ◌≢◌, ℕ, ◌≤◌, List, Option, None, Some, length, Contains}
use Rattle.kt_tuple.specs.declared.node.NodeId.{NodeId}
use Rattle.kt_tuple.specs.declared.node.NodeId.TheVariants.{Worker, Shard}
use Rattle.kt_tuple.specs.declared.op.Answer.{Answer}
use Rattle.kt_history.specs.declared.note.What.{What}
use Rattle.kt_history.specs.declared.note.What.TheVariants as whats
use Rattle.kt_history.specs.declared.note.Act.{Act}
use Rattle.kt_history.specs.declared.note.Note.{Note}
use Rattle.kt_history.specs.declared.note.Note.TheVariants as notes
use Rattle.kt_history.specs.Log.{note_at, before, log, IsAct}

-- the note may follow h: an act's cause is an act of h, and a cut keeps no more than the log has
abbrev pub MayFollow : List Note → Note → Type 0
MayFollow h (notes.Act a) = a.by ≢ 0 → IsAct h a.by
MayFollow h (notes.Cut p keep) = keep ≤ length (log h p)

-- each note may follow those before it
pub record CausesComeFirst (h : List Note) : Type 0 where
  pub follows : (n : ℕ) (note : Note) → note_at h n ≡ Some note → MayFollow (before h n) note

-- the act sends a request
abbrev pub IsAsking : What → Type 0
IsAsking whats.Issue = Unit {0}
IsAsking whats.Repeat = Unit {0}
IsAsking _ = ⊥

-- the act sends this answer
abbrev pub IsAnswering : What → Answer → Type 0
IsAnswering (whats.Served given) answer = given ≡ answer
IsAnswering (whats.Again given) answer = given ≡ answer
IsAnswering _ answer = ⊥

abbrev pub IsShard : NodeId → Type 0
IsShard (Worker w) = ⊥
IsShard (Shard s) = Unit {0}

-- two acts are about one request: the same worker, number and operation
pub record SameRequest (a b : Act) : Type 0 where
  pub worker : b.worker ≡ a.worker
  pub number : b.number ≡ a.number
  pub op : b.op ≡ a.op

-- the cause of a is an act of h that asked for the request of a
pub record HeardRequest (h : List Note) (a : Act) : Type 0 where
  pub cause : Act
  pub is_cause : note_at h a.by ≡ Some (notes.Act cause)
  pub asking : IsAsking cause.what
  pub same : SameRequest a cause

-- the cause of a is an act of a shard in h that answered the request of a so
pub record HeardReply (h : List Note) (a : Act) (answer : Answer) : Type 0 where
  pub cause : Act
  pub is_cause : note_at h a.by ≡ Some (notes.Act cause)
  pub at_shard : IsShard cause.node
  pub answering : IsAnswering cause.what answer
  pub same : SameRequest a cause

-- the request of a was served so before, and that stands in the log of a's node
pub record WasServed (h : List Note) (a : Act) (answer : Answer) : Type 0 where
  pub service : ℕ
  pub stands : Contains (log h a.node) service
  pub act : Act
  pub is_act : note_at h service ≡ Some (notes.Act act)
  pub served : act.what ≡ whats.Served answer
  pub same : SameRequest a act

-- a shard ignores a request, a worker a reply
abbrev pub IgnoredFits : List Note → Act → NodeId → Option Answer → Type 0
IgnoredFits h a (Shard s) None = HeardRequest h a
IgnoredFits h a (Worker w) (Some answer) = HeardReply h a answer
IgnoredFits h a _ _ = ⊥

-- the act a, of this kind, makes sense after h
abbrev pub ActFits : List Note → Act → What → Type 0
ActFits h a whats.Issue = a.by ≡ 0
ActFits h a whats.Repeat = a.by ≡ 0
ActFits h a whats.Heard = HeardRequest h a
ActFits h a (whats.Served answer) = HeardRequest h a
ActFits h a (whats.Again answer) = HeardRequest h a × WasServed h a answer
ActFits h a (whats.Accepted answer) = HeardReply h a answer
ActFits h a (whats.Ignored answer) = IgnoredFits h a a.node answer

-- the note makes sense after h
abbrev pub Fits : List Note → Note → Type 0
Fits h (notes.Act a) = ActFits h a a.what
Fits h (notes.Cut p keep) = keep ≤ length (log h p)

-- each note makes sense after those before it
pub record IsWellFormed (h : List Note) : Type 0 where
  pub fits : (n : ℕ) (note : Note) → note_at h n ≡ Some note → Fits (before h n) note

-- no note is a cut
pub record HasNoCut (h : List Note) : Type 0 where
  pub none : (n : ℕ) (p : NodeId) (keep : ℕ) → note_at h n ≢ Some (notes.Cut p keep)
