-- The state of the machine: n nodes, the links between them, and the board of verdicts.
-- Cited by Answers, Cases, Casts, Checks, Consequences, Cuts, Examples, Frames, Grounds, Invariant, Joins, Keeps,
--   Main, Rises, Rows, Starts, Streams, Talks, Trees, Verdicts, Votes, laws.rt, specs/Laws, specs/Rows and 2 more;
--   other crates.
use Rattle.std.specs.Prelude.{ℕ, suc, eqb, Bool, false, if◌then◌else◌, List, Option, Some, None}
use Rattle.kt_protocol.specs.Labels.{Label}
use Rattle.kt_protocol.specs.Logs.{Act}

-- checks and rollbacks are numbered apart
pub data Instance : Type 0 where
  Check : ℕ → Instance
  Rollback : ℕ → Instance

-- the verdict on an instance
pub data Verdict : Type 0 where
  Open : Verdict
  Yes : Verdict
  No : Verdict

-- a node in one of its incarnations
pub record Key : Type 0 where
  pub node : ℕ
  pub life : ℕ

-- the key of p in this incarnation
abbrev pub key_of : ℕ → ℕ → Key
key_of p c = record { node = p; life = c }

-- what a node keeps of an instance in which it votes: who asked it (none: it began the instance), whose
-- votes it awaits, whether a no came, whether it has voted itself
pub record Ballot : Type 0 where
  pub parent : Option Key
  pub awaited : ℕ → Bool
  pub refused : Bool
  pub voted : Bool

-- what a node does: `Within (Check n)` is Held, with a tentative checkpoint taken; `Within (Rollback n)` is Rolling
pub data Mode : Type 0 where
  Up : Mode
  Within : Instance → Ballot → Mode
  Down : Mode

-- an underlying message: the act that sent it, and its label
pub record AppMessage : Type 0 where
  pub by : ℕ
  pub label : Label

-- what stands on a link: an underlying message, or an ask of an instance with a label and the asker's
-- incarnation
pub data Message : Type 0 where
  App : AppMessage → Message
  Ask : Instance → Label → ℕ → Message

-- a vote in an instance on an ask of this key
pub record Vote : Type 0 where
  pub instance : Instance
  pub asker : Key
  pub agrees : Bool

-- a membership: the node joined the instance in this incarnation, asked by this key (none: it began it)
pub record Member : Type 0 where
  pub instance : Instance
  pub life : ℕ
  pub parent : Option Key

-- a yes of a member
pub record Mark : Type 0 where
  pub instance : Instance
  pub life : ℕ

-- a node: `log` is what it remembers, `perm` the acts of its permanent checkpoint, `tent` the check that is not
-- decided and for which a tentative checkpoint is stored, whose acts are those of the log. A node's votes
-- stay: one that is lost is one that is never counted. No rule reads `joined` and `said`.
pub record Node : Type 0 where
  pub mode : Mode
  pub life : ℕ
  pub count : ℕ
  pub log : List Act
  pub perm : List Act
  pub tent : Option ℕ
  pub kept : ℕ → List AppMessage
  pub votes : List Vote
  pub joined : List Member
  pub said : List Mark

-- verdicts, and which instances were begun
pub record Board : Type 0 where
  pub verdict : Instance → Verdict
  pub begun : Instance → Bool

-- the nodes by number, the link from each node to each, the board
pub record State : Type 0 where
  pub node : ℕ → Node
  pub link : ℕ → ℕ → List Message
  pub board : Board

-- two instances are one: a test that computes
abbrev pub same_instance : Instance → Instance → Bool
same_instance (Check m) (Check n) = eqb m n
same_instance (Rollback m) (Rollback n) = eqb m n
same_instance i j = false

-- the function with another value at i
abbrev pub at_instance : {A : Type 0} → Instance → A → (Instance → A) → Instance → A
at_instance i new old j = if same_instance j i then new else old j

-- the instance in which a node votes
abbrev pub instance_of : Mode → Option Instance
instance_of (Within i b) = Some i
instance_of mode = None

-- the label of the next message
abbrev pub next_label : Node → Label
next_label n = record { life = n.life; count = suc n.count }
