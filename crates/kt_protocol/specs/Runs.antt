-- Runs of the machine from a beginning.
-- Cited by Answers, Cases, Casts, Checks, Consequences, Cuts, Examples, Frames, Grounds, Keeps, Main, Rises, Starts,
--   Talks, Votes, specs/Laws; other crates.
use Rattle.std.specs.Prelude.{◌≡◌, ◌≢◌, ℕ, Bool, false, IsTrue, [], ◌∷◌, None}
use Rattle.kt_protocol.specs.Labels.{Label, Under, UpTo}
use Rattle.kt_protocol.specs.Logs.{Resumes, top_sent, top_heard}
use Rattle.kt_protocol.specs.Machine.{Instance, Up, Down, Open, Node, State, next_label}
use Rattle.kt_protocol.specs.Steps.{Step}

-- neighbours are two nodes, and each is the other's
pub record AreNeighbours (peer : ℕ → ℕ → Bool) : Type 0 where
  pub two : (p q : ℕ) → IsTrue (peer p q) → p ≢ q
  pub both : (p q : ℕ) → IsTrue (peer p q) → IsTrue (peer q p)

-- a node at the beginning: up, with nothing remembered; its incarnation may be any
pub record IsNew (n : Node) : Type 0 where
  pub mode : n.mode ≡ Up
  pub log : n.log ≡ []
  pub perm : n.perm ≡ []
  pub tent : n.tent ≡ None
  pub kept : (x : ℕ) → n.kept x ≡ []
  pub votes : n.votes ≡ []
  pub joined : n.joined ≡ []
  pub said : n.said ≡ []

-- the node o is resumed: it is down, with its permanent checkpoint, of whose acts, all up to this number, it has the
-- last
-- labels; none that it sent is of a later incarnation
pub record IsResumed (first o : ℕ) (n : Node) : Type 0 where
  pub mode : n.mode ≡ Down
  pub sent : ℕ → Label
  pub heard : ℕ → Label
  pub log : n.log ≡ Resumes o first sent heard ∷ []
  pub perm : n.perm ≡ Resumes o first sent heard ∷ []
  pub room : (q : ℕ) → Under (sent q) (next_label n)
  pub tent : n.tent ≡ None
  pub kept : (x : ℕ) → n.kept x ≡ []
  pub votes : n.votes ≡ []
  pub joined : n.joined ≡ []
  pub said : n.said ≡ []

-- a node is new or resumed
pub data IsFirst (first o : ℕ) (n : Node) : Type 0 where
  new : IsNew n → IsFirst first o n
  resumed : IsResumed first o n → IsFirst first o n

-- each node is new or resumed, all links are empty, nobody is in an instance, whatever was begun and decided before;
-- and
-- what a permanent checkpoint heard, the sender's has sent
pub record IsBeginning (peer : ℕ → ℕ → Bool) (s : State) : Type 0 where
  pub first : ℕ
  pub nodes : (o : ℕ) → IsFirst first o (s.node o)
  pub empty : (p q : ℕ) → s.link p q ≡ []
  pub fresh : (i : Instance) → s.board.begun i ≡ false → s.board.verdict i ≡ Open
  pub agree : (p q : ℕ) → IsTrue (peer p q) → UpTo (top_heard (s.node q).perm p) (top_sent (s.node p).perm q)

-- the second state is reached from the first by a list of steps
pub data Run (peer : ℕ → ℕ → Bool) (s : State) : State → Type 0 where
  nothing_done : Run peer s s
  one_more : {t u : State} → Run peer s t → Step peer t u → Run peer s u
