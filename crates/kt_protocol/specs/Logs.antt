-- What a node remembers: its acts, newest first.
-- Cited by Answers, Casts, Checks, Consequences, Cuts, Examples, Frames, Grounds, Invariant, Joins, Keeps, Logs,
--   Main, Rises, Rows, Starts, Streams, Talks, Trees, Votes, laws.rt, specs/Laws, specs/Machine, specs/Rows and 2 more;
--   other crates.
use Rattle.std.specs.Prelude.{ℕ, eqb, if◌then◌else◌, List, [], ◌∷◌}
use Rattle.kt_protocol.specs.Labels.{Label, no_label}

-- x stands in the list
pub data IsIn {A : Type 0} (x : A) : List A → Type 0 where
  here : {xs : List A} → IsIn x (x ∷ xs)
  there : {y : A} {xs : List A} → IsIn x xs → IsIn x (y ∷ xs)

-- an act of a node: the act `by` sends a message to y under this label, or hears what the act `by` of x sent; or the
-- node o is resumed, and stands for the acts of it up to this number by the last label sent to each node, and the last
-- one heard from each
pub data Act : Type 0 where
  Sends : ℕ → ℕ → Label → Act
  Hears : ℕ → ℕ → Label → Act
  Resumes : ℕ → ℕ → (ℕ → Label) → (ℕ → Label) → Act

-- the label of the last message to q
unfoldable pub top_sent : List Act → ℕ → Label
top_sent [] q = no_label
top_sent (Sends by y l ∷ log) q = if eqb y q then l else top_sent log q
top_sent (Hears by x l ∷ log) q = top_sent log q
top_sent (Resumes o first sent heard ∷ log) q = sent q

-- the label of the last message heard from p
unfoldable pub top_heard : List Act → ℕ → Label
top_heard [] p = no_label
top_heard (Sends by y l ∷ log) p = top_heard log p
top_heard (Hears by x l ∷ log) p = if eqb x p then l else top_heard log p
top_heard (Resumes o first sent heard ∷ log) p = heard p

-- the act is of a message
abbrev pub IsTalk : Act → Type 0
IsTalk (Sends by y l) = Unit {0}
IsTalk (Hears by x l) = Unit {0}
IsTalk (Resumes o first sent heard) = ⊥

-- the second list is the first with acts of messages put on it
pub data IsTail (old : List Act) : List Act → Type 0 where
  all : IsTail old old
  more : {x : Act} {xs : List Act} → IsTalk x → IsTail old xs → IsTail old (x ∷ xs)
