-- Labels of messages: the incarnation of the sender and the count of its messages in it.
-- Cited by Answers, Cases, Casts, Checks, Consequences, Cuts, Examples, Frames, Grounds, Invariant, Joins, Keeps,
--   Labels, Logs, Main, Rises, Rows, Starts, Streams, Talks, Trees, Votes, laws.rt, specs/Laws and 5 more; other
--   crates.
use Rattle.std.specs.Prelude.{◌≡◌, ℕ, ◌≤◌, ◌<◌, Bool, eqb, ltb, leb, ◌&&◌, ◌||◌, if◌then◌else◌}

-- a label
pub record Label : Type 0 where
  pub life : ℕ
  pub count : ℕ

-- the label that stands for no message
abbrev pub no_label : Label
no_label = record { life = 0; count = 0 }

-- a comes before b: in an earlier incarnation, or in the same one with a lower count
pub record Under (a b : Label) : Type 0 where
  pub lives : a.life ≤ b.life
  pub counts : a.life ≡ b.life → a.count < b.count

-- a comes before b or is b
pub record UpTo (a b : Label) : Type 0 where
  pub lives : a.life ≤ b.life
  pub counts : a.life ≡ b.life → a.count ≤ b.count

-- the function with another value at k
abbrev pub at : {A : Type 0} → ℕ → A → (ℕ → A) → ℕ → A
at k new old x = if eqb x k then new else old x

-- a comes before b or is b: a test that computes
abbrev pub up_to : Label → Label → Bool
up_to a b = ltb a.life b.life || (eqb a.life b.life && leb a.count b.count)
