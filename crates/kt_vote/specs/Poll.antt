-- The abstract state of a ballot, and what asking and a vote make of it.
-- Cited by After, Asked, Told, ballot.rt, laws.rt, specs/Counting, `Ballot::ask`, `Ballot::count_vote`; other crates.
use Rattle.std.specs.Prelude.{◌≡◌, ℕ, ◌==◌, Bool, true, false, not, ◌&&◌, ◌||◌, if◌then◌else◌}
use Rattle.std.specs.Prelude.{List, [], ◌∷◌, ◌++◌, filter, Contains, Option, Some, None}
use Rattle.std.specs.List.{list_any}
use Rattle.kt_tuple.specs.declared.node.NodeId.{NodeId}
use Rattle.kt_tuple.specs.Node.{node_eq}
use Rattle.kt_vote.specs.declared.asker.Asker.{Asker}
use Rattle.kt_vote.specs.declared.vote.Vote.{Vote}

-- the instance; the incarnation in which its node asks; who asked the node itself, and in which of the asker's
-- incarnations, unless the node began the instance; the nodes that it asked, and those of them that have not voted,
-- each in node order; whether one said no; whether the node itself has voted
pub record Poll : Type 0 where
  pub instance : ℕ
  pub incarnation : ℕ
  pub parent : Option Asker
  pub asked : List NodeId
  pub awaited : List NodeId
  pub refused : Bool
  pub voted : Bool

-- nobody is asked yet
abbrev pub opening_poll : ℕ → ℕ → Option Asker → Poll
opening_poll instance incarnation parent = record {
  instance = instance;
  incarnation = incarnation;
  parent = parent;
  asked = [];
  awaited = [];
  refused = false;
  voted = false;
}

-- these are asked, and none has voted
abbrev pub asking_poll : ℕ → ℕ → Option Asker → List NodeId → Poll
asking_poll instance incarnation parent asked = record {
  instance = instance;
  incarnation = incarnation;
  parent = parent;
  asked = asked;
  awaited = asked;
  refused = false;
  voted = false;
}

-- one node more is asked
abbrev pub asked_too : NodeId → Poll → Poll
asked_too node b = record b { asked = b.asked ++ node ∷ []; awaited = b.awaited ++ node ∷ [] }

-- the vote is one of the instance, on an ask of the incarnation
abbrev pub is_on : Poll → Vote → Bool
is_on b vote = (vote.instance == b.instance) && (vote.incarnation == b.incarnation)

-- the node was asked and has not voted
abbrev pub is_awaited : Poll → NodeId → Bool
is_awaited b node = list_any (λ x. node_eq x node) b.awaited

-- the vote is counted: it is one of the instance, on an ask of the incarnation, by a node that is awaited
abbrev pub Counts : Poll → NodeId → Vote → Type 0
Counts b from vote = (vote.instance ≡ b.instance) × ((vote.incarnation ≡ b.incarnation) × Contains b.awaited from)

-- the same as a test that computes
abbrev pub counts : Poll → NodeId → Vote → Bool
counts b from vote = is_on b vote && is_awaited b from

-- the node is awaited no more, and where it said no, one has
abbrev pub counted : Poll → NodeId → Bool → Poll
counted b from agrees = record b {
  awaited = filter (λ x. not (node_eq x from)) b.awaited;
  refused = b.refused || not agrees;
}

-- what a vote that comes makes of a ballot: one that is not counted changes nothing
abbrev pub heard : Poll → NodeId → Vote → Poll
heard b from vote = if counts b from vote then counted b from vote.yes else b

-- what the votes come to: no as soon as one said no, yes where all said yes
abbrev pub outcome_from : Bool → List NodeId → Option Bool
outcome_from true awaited = Some false
outcome_from false [] = Some true
outcome_from false (x ∷ later) = None

abbrev pub outcome_of : Poll → Option Bool
outcome_of b = outcome_from b.refused b.awaited
